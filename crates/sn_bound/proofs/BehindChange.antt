-- A device that has all versions of its account and no draft, and holds the account's last set alone, asks for a change of its password that is answered, and
-- adopts the new set: it has all versions and no draft behind that too, and holds the new last set.
use Rattle.std.proofs.Common.{◌≡◌, ◌<◌, ℕ, List, [], ◌∷◌, ◌++◌, length, Bool, true, false, Option, Some, None, refl, sym, ap, ◌∙◌, subst, arith}
use Rattle.rand_chacha.specs.ChaCha.{ChaCha}
use Rattle.sn_account.specs.Rule.{Rule}
use Rattle.sn_account.specs.Sound.{IsSound as IsSoundServer}
use Rattle.sn_bound.proofs.OneExchange.{HasAllAt}
use Rattle.sn_bound.proofs.SentNamed.{NoneDrafted}
use Rattle.sn_bound.specs.Whole.{WholeChanges}
use Rattle.sn_device.proofs.Facts.{Adopted, adopted, past_asked}
use Rattle.sn_device.specs.Asking.{said}
use Rattle.sn_device.specs.Runs.{Act, asked, change_to, commits as committed}
use Rattle.sn_device.specs.States.{HasSets}
use Rattle.sn_device.specs.Steps.{Step, adopts, asks}
use Rattle.sn_laws.specs.Lookups.{Bytes, greatest}
use Rattle.sn_laws.specs.Runs.{end_from}
use Rattle.sn_laws.specs.declared.ideal.Account.{Account}
use Rattle.sn_laws.specs.declared.ideal.Device.{Device}
use Rattle.sn_laws.specs.declared.ideal.Ideal.{Ideal}
use Rattle.sn_laws.specs.declared.moves.Move.{Move}
use Rattle.sn_passwd.proofs.KeysKept.{asked_sets, with_asked}
use Rattle.sn_passwd.proofs.Points.{HoldsAlone}
use Rattle.sn_passwd.proofs.Renewed.{HoldsBefore, HoldsBoth, HoldsFrom, IsOneChange, Since, adopted_both, changed_before, one_change, since_first}
use Rattle.sn_passwd.proofs.Resolving.{ResolvingLaws}
use Rattle.sn_ready.specs.Ready.{HoldsLast}
use Rattle.sn_rekey.specs.Rekeying.{RewrapsPlace}
use Rattle.sn_rows.specs.Table.{Rows, rows_after}
use Rattle.sn_rows.specs.declared.body.RowBody.{RowBody}
use Rattle.sn_rows.specs.declared.change.Change.{Change}
use Rattle.sn_rows.specs.declared.device_rows.OwnerRow.{OwnerRow}
use Rattle.sn_rows.specs.declared.key.Key.TheVariants as key
use Rattle.sn_rows.specs.declared.value.Value.TheVariants as value
use Rattle.sn_sets.specs.declared.sets.Sets.{Sets}
use Rattle.sn_shows.proofs.Facts.{accounts_apart, greatest_of_two, holder_from}
use Rattle.sn_shows.specs.Laws.{HasAccount}
use Rattle.sn_string.specs.declared.params.KeySet.{KeySet}
use Rattle.sn_sync.specs.Fits.{FitsRequest}
use Rattle.sn_sync.specs.declared.answer.Answer.{Answer}
use Rattle.sn_sync.specs.declared.answer.Answer.TheVariants as answer
use Rattle.sn_sync.specs.declared.request.Request.{Request}
use Rattle.sn_world.proofs.AskLemmas.{answered_stands, holds_made, is_answered, made_of, made_world, said_moves, served_world, serves_so}
use Rattle.sn_world.proofs.CallLemmas.{Stands, commit_leads, stands_then}
use Rattle.sn_world.specs.Calls.{AreServed, Fate, Leads, rows_behind}
use Rattle.sn_world.specs.Committing.{MayAdopt}
use Rattle.sn_world.specs.Happens.{Trace, commits}
use Rattle.sn_world.specs.Holds.{TokensDiffer}
use Rattle.sn_world.specs.Making.{MakesChange}
use Rattle.sn_world.specs.Serving.{SaysServed, Serves}
use Rattle.sn_world.specs.World.{Made, World}

-- ---- sets and drafts

both_last : (s t : Ideal) (name : Bytes) → HoldsBoth s name t → HoldsLast t name
both_last s t name both d a has =
    let x : HoldsFrom s d a (length a.sets ∷ []) = both d a has in
    let next = x.next in
    let less : x.first < length a.sets = omega arith in
    ap (greatest 0) x.held ∙ greatest_of_two x.first (length a.sets) less

no_moves : (secret name : Bytes) (v next : World) (t : Ideal) (set : KeySet) (changes : List Change) (moves : List Move)
    → Trace secret v t (commits name (asks set) changes true ∷ []) moves next → end_from t moves ≡ t
no_moves secret name v next t set changes moves (mid, first, later, does, says, (none, same), is) =
    ap (λ (ms : List Move). end_from t ms) (is ∙ ap (λ (ms : List Move). ms ++ later) says ∙ none)

-- a place without a version stays so
none_again : (sets : Sets) (set : KeySet) (words : ChaCha) (uuid : Bytes) (again : Bool) (before after : Option RowBody) (left : ChaCha)
    → RewrapsPlace sets set words uuid again before after left → before ≡ None → after ≡ None
none_again sets set words uuid true before after left x none = absurd (let some = x.given_is in cc)
none_again sets set words uuid false before after left x none = x.same ∙ none

none_drafted : (rows : Rows) (sets : Sets) (set : KeySet) (token : Bytes) (owner : OwnerRow) (after : Rows) → Adopted rows sets set token owner after
    → NoneDrafted rows → NoneDrafted after
none_drafted rows sets set token owner after x clean n local stands =
    let was = x.items n local stands in
    let r = was.2.rekeys in
    none_again sets set r.second was.0.uuid r.latest_again was.0.latest local.latest r.third r.latest_is (clean n was.0 was.1)

-- ---- the change

-- what is done behind the adoption is done over what the server has then
pub record IsBehindChange (secret name : Bytes) (later : List Act) (rows : Rows) (fates : List Fate) : Type 0 where
  pub world : World
  pub ideal : Ideal
  pub server : Rows
  pub met : Fate
  pub others : List Fate
  pub fates_are : fates ≡ met ∷ others
  pub has_all : HasAllAt secret name world ideal server rows
  pub over : AreServed server later others

module _ (laws : ResolvingLaws) (changes_whole : WholeChanges) (secret : Bytes) (differ : TokensDiffer secret) (name : Bytes) (v : World) (t : Ideal)
    (server rows : Rows) (k : HasAllAt secret name v t server rows) (alone : HoldsAlone t name) (owner : OwnerRow) (sets : Sets)
    (holds : HasSets rows owner sets) (set : KeySet) (left : ChaCha) (kept : List Change) (keeps_it : Step rows left (asks set) kept left)
    (token identifier uuid : Bytes) (adopted_by : List Change) (rest : ChaCha)
    (step : Step (rows_after rows kept) left (adopts set token) adopted_by rest) where
  abbrev change : Request
  change = change_to owner sets.present set

  abbrev given : Answer
  given = answer.Account token identifier uuid

  abbrev begins : Request → Option KeySet
  begins r = Some set

  abbrev m : Made
  m = made_of name (Some set) change

  abbrev mid : Rows
  mid = rows_after rows kept

  -- the set is kept as asked for, which says no move
  one : Leads secret v t name (commits name (asks set) kept true ∷ []) server mid
  one = commit_leads laws.keeps laws.says secret differ name v t server rows left left (asks set) kept k.stands keeps_it tt

  abbrev u : World
  u = one.next

  stands_one : Stands secret name u t server mid
  stands_one =
      subst (λ (s : Ideal). Stands secret name u s server mid) (no_moves secret name v u t set kept one.moves one.goes)
      (stands_then laws.keeps laws.says secret differ name v t (commits name (asks set) kept true ∷ []) server mid k.stands.holds one)

  holds_one : HasSets mid owner (with_asked sets set)
  holds_one = asked_sets rows owner sets set kept holds keeps_it.0

  of : MakesChange mid (Some set) change
  of = record { owner = owner; sets = with_asked sets set; holds = holds_one; set = set; asked = refl; is = refl; request_is = refl }

  there : HasSets (u.devices name) owner (with_asked sets set)
  there = subst (λ (r : Rows). HasSets r owner (with_asked sets set)) (sym stands_one.device_is) holds_one

  of_there : MakesChange (u.devices name) (Some set) change
  of_there = record { owner = owner; sets = with_asked sets set; holds = there; set = set; asked = refl; is = refl; request_is = refl }

  -- the change is served
  module _ (now : ℕ) (changes : List Change) (fits : FitsRequest change) (rule : Rule server change now changes given) where
    said_so : (moves : List Move) × SaysServed u.server (u.devices name) m changes moves
    said_so = said_moves laws.keeps laws.says secret differ name begins u t server mid stands_one change of now changes given fits rule

    abbrev then : World
    then = served_world u m changes

    abbrev s : Ideal
    s = end_from t said_so.0

    stands_two : Stands secret name then s (rows_after server changes) mid
    stands_two =
        answered_stands laws.keeps laws.says secret differ name begins u t server mid stands_one change of now changes given said_so.0 fits rule said_so.1

    serves_it : Serves (made_world u m) then m now changes given
    serves_it = serves_so u m server now changes given stands_one.server_is fits rule

    may : MayAdopt secret s name set token
    may =
        laws.changed secret (made_world u m) then t m now changes said_so.0 token identifier uuid set differ
        (holds_made laws.keeps laws.says secret differ name begins u t server mid stands_one change of) of_there refl serves_it said_so.1

    -- and the set is adopted
    two : Leads secret then s name (commits name (adopts set token) adopted_by true ∷ []) (rows_after server changes) (rows_after mid adopted_by)
    two =
        commit_leads laws.keeps laws.says secret differ name then s (rows_after server changes) mid left rest (adopts set token) adopted_by stands_two step may

    stands_three : Stands secret name two.next (end_from s two.moves) (rows_after server changes) (rows_after mid adopted_by)
    stands_three =
        stands_then laws.keeps laws.says secret differ name then s (commits name (adopts set token) adopted_by true ∷ []) (rows_after server changes)
        (rows_after mid adopted_by) stands_two.holds two

    its : (d : Device) × (a : Account) × HasAccount t name d a
    its = holder_from (u.devices name) t name key.Owner (value.Owner owner) (stands_one.holds.devices name) there.owned

    since : Since t name t
    since = since_first name t t [] its.0 its.1 refl its.2 tt

    before : HoldsBefore t name s
    before =
        changed_before accounts_apart secret then t t said_so.0 name stands_two.holds
        (subst (λ (ms : List Move). IsOneChange ms) (sym said_so.1) (one_change (Some set) changes)) its.0 its.1 its.2 alone since set token may

    both : HoldsBoth t name (end_from s two.moves)
    both = adopted_both secret name then two.next t s set token adopted_by two.moves two.goes before

    sound_server : IsSoundServer server
    sound_server =
        subst IsSoundServer k.stands.server_is
        (k.stands.holds.server_sound k.whole.session.store
        (ap (λ (r : Rows). r key.Store) k.stands.server_is ∙ k.whole.session.stands))

    clean_mid : NoneDrafted mid
    clean_mid n local stands =
        k.clean n local
        (sym (ap (λ (cs : List Change). rows_after rows cs (key.Local n)) keeps_it.0.changes_are
        ∙ past_asked rows keeps_it.0.change (key.Local n) keeps_it.0.put.puts.key_is (λ e. cc)) ∙ stands)

    has_all : HasAllAt secret name two.next (end_from s two.moves) (rows_after server changes) (rows_after mid adopted_by)
    has_all = record {
      stands = stands_three;
      last = both_last t (end_from s two.moves) name both;
      clean = none_drafted mid step.sets set token step.owner (rows_after mid adopted_by) (adopted mid left rest set token adopted_by step) clean_mid;
      whole = changes_whole server rows owner sets set left left rest kept adopted_by now changes token identifier uuid sound_server k.whole holds keeps_it rule
          step;
    }

  pub behind_change : (later : List Act) (fates : List Fate)
      → AreServed server (committed (asks set) kept ∷ asked change (said given) ∷ committed (adopts set token) adopted_by ∷ later) fates
      → IsBehindChange secret name later (rows_after mid adopted_by) fates
  behind_change later [] over = absurd over
  behind_change later (fate ∷ fates) (served_one, over) =
      let a = is_answered server change given (said given) fate refl served_one in
      record {
        world = (two a.now a.changes a.fits a.rule).next;
        ideal = end_from (s a.now a.changes a.fits a.rule) (two a.now a.changes a.fits a.rule).moves;
        server = rows_after server a.changes;
        met = fate;
        others = fates;
        fates_are = refl;
        has_all = has_all a.now a.changes a.fits a.rule;
        over = subst (λ (f : Fate). AreServed (rows_behind server f) later fates) a.fate_is over;
      }
