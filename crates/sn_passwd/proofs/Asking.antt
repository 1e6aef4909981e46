-- A new set is asked for: a device that holds its account's last set keeps the new one as asked for, asks its server for the change, and adopts the set
-- where the server makes the change.
use Rattle.std.proofs.Common.{◌≡◌, ◌⊎◌, ℕ, suc, List, [], ◌∷◌, ◌++◌, Option, Some, true, refl, sym, ap, ◌∙◌, subst, inl, inr}
use Rattle.rand_chacha.specs.ChaCha.{ChaCha}
use Rattle.sn_account.specs.Rule.{Rule}
use Rattle.sn_device.specs.Runs.{Act, AnswersChange, AsksFor, AsksHost, CommitsStep, EndsBy, IsNewSet, Point, Then, Turn, change_to}
use Rattle.sn_device.specs.States.{HasSets}
use Rattle.sn_device.specs.Steps.{adopts, asks}
use Rattle.sn_device.specs.declared.error.ClientError.{ClientError}
use Rattle.sn_device.specs.declared.error.ClientError.TheVariants as refusal
use Rattle.sn_keys.specs.Keys.{AreKeysOf}
use Rattle.sn_laws.specs.Lookups.{Bytes}
use Rattle.sn_laws.specs.Runs.{end_from}
use Rattle.sn_laws.specs.declared.ideal.Ideal.{Ideal}
use Rattle.sn_laws.specs.declared.moves.Move.{Move}
use Rattle.sn_passwd.proofs.KeysKept.{asked_sets, with_asked}
use Rattle.sn_passwd.proofs.NotDenied.{not_denied}
use Rattle.sn_passwd.proofs.Pieces.{BehindAnswer, Known, NeverAnswers, Piece, PieceGoes, asks_host_goes, asks_never, commits_never, commits_step_goes, ends_never, then_goes, then_never}
use Rattle.sn_passwd.proofs.Points.{HasKeys, HoldsAlone, last_alone}
use Rattle.sn_passwd.proofs.Renewed.{HoldsBefore, HoldsBoth, IsOneChange, Since, adopted_both, changed_before, one_change}
use Rattle.sn_passwd.proofs.Resolving.{CanAdopt, HasAdopted, ResolvingLaws, drops_goes, drops_never, has_adopted, resolves_never}
use Rattle.sn_rows.specs.Table.{Rows, rows_after}
use Rattle.sn_rows.specs.declared.change.Change.{Change}
use Rattle.sn_rows.specs.declared.device_rows.OwnerRow.{OwnerRow}
use Rattle.sn_rows.specs.declared.key.Key.TheVariants as key
use Rattle.sn_rows.specs.declared.value.Value.TheVariants as value
use Rattle.sn_sets.specs.declared.sets.Sets.{Sets}
use Rattle.sn_shows.proofs.Facts.{accounts_apart, holder_from}
use Rattle.sn_string.specs.declared.params.KeySet.{KeySet}
use Rattle.sn_sync.specs.Fits.{FitsRequest}
use Rattle.sn_sync.specs.declared.answer.Answer.{Answer}
use Rattle.sn_sync.specs.declared.answer.Answer.TheVariants as answer
use Rattle.sn_sync.specs.declared.request.Request.{Request}
use Rattle.sn_world.proofs.Facts.{Stands, holds_made, made_of, made_world, served_world, serves_so}
use Rattle.sn_world.specs.Committing.{MayAdopt}
use Rattle.sn_world.specs.Happens.{Trace, commits}
use Rattle.sn_world.specs.Holds.{Holds, TokensDiffer}
use Rattle.sn_world.specs.Making.{MakesChange}
use Rattle.sn_world.specs.Plain.{AsksNoSet}
use Rattle.sn_world.specs.Serving.{SaysServed, Serves}
use Rattle.sn_world.specs.World.{Made, World}

-- ---- the pieces

-- the change to a set that was drawn
abbrev pub AsksThis : OwnerRow → KeySet → KeySet → Piece
AsksThis owner present set = Then (CommitsStep (asks set)) (AsksHost (change_to owner present set) (AnswersChange owner present set))

-- a new set of the password is drawn and asked for
abbrev pub AsksDrawn : Bytes → ℕ → OwnerRow → Sets → KeySet → ChaCha → Piece
AsksDrawn password cost owner sets set left p acts turn = HasSets p.rows owner sets × IsNewSet p.words owner.identifier password cost set left
    × AsksThis owner sets.present set (record { made = p.made; rows = p.rows; words = left }) acts turn

-- nothing is done, and the call is refused
abbrev pub IsRefused : Piece
IsRefused p acts turn = (why : ClientError) × EndsBy why p acts turn

-- one or the other
pub asks_or_not : (password : Bytes) (cost : ℕ) (p : Point) (acts : List Act) (turn : Turn) → AsksFor password cost p acts turn
    → IsRefused p acts turn ⊎ ((owner : OwnerRow) × (sets : Sets) × (set : KeySet) × (left : ChaCha) × AsksDrawn password cost owner sets set left p acts turn)
asks_or_not password cost p acts turn (inl ends) = inl (refusal.Memory, ends)
asks_or_not password cost p acts turn (inr (owner, sets, holds, inl (why, refuses, ends))) = inl (why, ends)
asks_or_not password cost p acts turn (inr (owner, sets, holds, inr (may, inl (all, ends)))) = inl (refusal.RoundsUsed, ends)
asks_or_not password cost p acts turn (inr (owner, sets, holds, inr (may, inr (few, (set, left, new, so))))) =
    inr (owner, sets, set, left, (holds, new, so))

-- ---- what is known before them, between them and behind them

-- the device holds its account's last set alone, and in this state the account had no more sets than now
abbrev pub IsReady : Ideal → Bytes → Ideal → Type 0
IsReady s name t = HoldsAlone t name × Since s name t

-- and it has these sets
abbrev pub HoldsSets : Ideal → Bytes → OwnerRow → Sets → Known
HoldsSets s name owner sets v t p = HasSets p.rows owner sets × IsReady s name t

-- it may adopt the set
abbrev pub MayTake : Bytes → Ideal → Bytes → OwnerRow → KeySet → Bytes → Known
MayTake secret s name owner set token v t p = CanAdopt secret name owner set token v t p × HoldsBefore s name t

-- it asks for no set, has this one as its present set, and holds its account's last two sets, of which the account had only the first
abbrev pub HasNew : Ideal → Bytes → Bytes → KeySet → Known
HasNew s name identifier set v t p = AsksNoSet p.rows × ((token : Bytes) × HasKeys p.rows identifier token set) × HoldsBoth s name t

has_new : (s : Ideal) (name : Bytes) (owner : OwnerRow) (set : KeySet) (v : World) (t : Ideal) (p : Point) → HasAdopted owner set v t p → HoldsBoth s name t
    → HasNew s name owner.identifier set v t p
has_new s name owner set v t p x both = (
  x.none_asked,
  (x.owner.token, record { owner = x.owner; sets = x.sets; holds = x.holds; identifier_is = x.same; token_is = refl; present_is = x.present_is }),
  both,
)

-- ---- they never answer the call

answers_change_never : (owner : OwnerRow) (present set : KeySet) (given : Answer) → NeverAnswers (AnswersChange owner present set given)
answers_change_never owner present set (answer.Account token identifier uuid) p acts some left so = commits_never (adopts set token) p acts some left so
answers_change_never owner present set (answer.Refused status tag more) p acts some left (inl (denied, so)) = resolves_never owner present set p acts some left so
answers_change_never owner present set (answer.Refused status tag more) p acts some left (inr (other, so)) =
    drops_never (refusal.Refused status tag) p acts some left so
answers_change_never owner present set (answer.Params params) p acts some left so = so
answers_change_never owner present set (answer.Sync conflicts cursor retrieved saved token) p acts some left so = so

asks_this_never : (owner : OwnerRow) (present set : KeySet) → NeverAnswers (AsksThis owner present set)
asks_this_never owner present set =
    then_never (CommitsStep (asks set)) (AsksHost (change_to owner present set) (AnswersChange owner present set)) (commits_never (asks set))
    (asks_never (change_to owner present set) (AnswersChange owner present set) (answers_change_never owner present set))

pub is_refused_never : NeverAnswers IsRefused
is_refused_never p acts given left (why, ends) = ends_never why p acts given left ends

pub asks_drawn_never : (password : Bytes) (cost : ℕ) (owner : OwnerRow) (sets : Sets) (set : KeySet) (rest : ChaCha)
    → NeverAnswers (AsksDrawn password cost owner sets set rest)
asks_drawn_never password cost owner sets set rest p acts given left (holds, new, so) =
    asks_this_never owner sets.present set (record { made = p.made; rows = p.rows; words = rest }) acts given left so

-- ---- the commit of a set that is asked for says no move

no_moves : (secret name : Bytes) (v next : World) (t : Ideal) (set : KeySet) (changes : List Change) (moves : List Move)
    → Trace secret v t (commits name (asks set) changes true ∷ []) moves next → end_from t moves ≡ t
no_moves secret name v next t set changes moves (mid, first, later, does, said, (none, same), is) =
    ap (λ (ms : List Move). end_from t ms) (is ∙ ap (λ (ms : List Move). ms ++ later) said ∙ none)

-- ---- the change

module _ (laws : ResolvingLaws) (secret : Bytes) (differ : TokensDiffer secret) (name : Bytes) (begins : Request → Option KeySet) (s : Ideal) where
  adopts_new : (owner : OwnerRow) (set : KeySet) (token : Bytes)
      → PieceGoes secret name begins (CommitsStep (adopts set token)) (MayTake secret s name owner set token) (HasNew s name owner.identifier set)
  adopts_new owner set token =
      commits_step_goes laws.keeps laws.says secret differ name begins (adopts set token) (MayTake secret s name owner set token)
      (HasNew s name owner.identifier set)
      (λ v t server p k pre. pre.0.may)
      (λ v t server p changes left k pre step one stands.
      has_new s name owner set one.next (end_from t one.moves) (record { made = p.made; rows = rows_after p.rows changes; words = left })
      (has_adopted secret name v t server p owner set token changes left differ k pre.0 step one.next (end_from t one.moves))
      (adopted_both secret name v one.next s t set token changes one.moves one.goes pre.1))

  module _ (owner : OwnerRow) (sets : Sets) (set : KeySet) (begins_set : begins (change_to owner sets.present set) ≡ Some set) where
    abbrev change : Request
    change = change_to owner sets.present set

    keeps_asked : PieceGoes secret name begins (CommitsStep (asks set)) (HoldsSets s name owner sets) (HoldsSets s name owner (with_asked sets set))
    keeps_asked =
        commits_step_goes laws.keeps laws.says secret differ name begins (asks set) (HoldsSets s name owner sets) (HoldsSets s name owner (with_asked sets set))
        (λ v t server p k pre. tt)
        (λ v t server p changes left k pre step one stands. (
          asked_sets p.rows owner sets set changes pre.0 step.0,
          subst (λ (u : Ideal). IsReady s name u) (sym (no_moves secret name v one.next t set changes one.moves one.goes)) pre.1,
        ))

    makes_change : (rows : Rows) (found : Option KeySet) → HasSets rows owner (with_asked sets set) → found ≡ Some set → MakesChange rows found change
    makes_change rows found holds is =
        record { owner = owner; sets = with_asked sets set; holds = holds; set = set; asked = refl; is = is; request_is = refl }

    -- behind its answer
    module _ (v : World) (t : Ideal) (server : Rows) (p : Point) (k : Stands secret name v t server p.rows)
        (holds : HasSets p.rows owner (with_asked sets set)) (ready : IsReady s name t) where
      abbrev m : Made
      m = made_of name (begins change) change

      abbrev heard : Point
      heard = record { made = suc p.made; rows = p.rows; words = p.words }

      of : MakesChange p.rows (begins change) change
      of = makes_change p.rows (begins change) holds begins_set

      there : HasSets (v.devices name) owner (with_asked sets set)
      there = subst (λ (rows : Rows). HasSets rows owner (with_asked sets set)) (sym k.device_is) holds

      may_adopt : (now : ℕ) (changes : List Change) (moves : List Move) (token identifier uuid : Bytes) → FitsRequest change
          → Rule server change now changes (answer.Account token identifier uuid) → SaysServed v.server (v.devices name) m changes moves
          → MayAdopt secret (end_from t moves) name set token
      may_adopt now changes moves token identifier uuid fits rule says_it =
          let served : Serves (made_world v m) (served_world v m changes) m now changes (answer.Account token identifier uuid) =
          serves_so v m server now changes (answer.Account token identifier uuid) k.server_is fits rule in
          laws.changed secret (made_world v m) (served_world v m changes) t m now changes moves token identifier uuid set differ
          (holds_made laws.keeps laws.says secret differ name begins v t server p.rows k change of) (makes_change (v.devices name) (Some set) there refl)
          begins_set served says_it

      -- the account has one set more
      before : (now : ℕ) (changes : List Change) (moves : List Move) (token identifier uuid : Bytes) → FitsRequest change
          → Rule server change now changes (answer.Account token identifier uuid) → SaysServed v.server (v.devices name) m changes moves
          → Holds secret (served_world v m changes) (end_from t moves) → HoldsBefore s name (end_from t moves)
      before now changes moves token identifier uuid fits rule says_it kept =
          let its = holder_from (v.devices name) t name key.Owner (value.Owner owner) (k.holds.devices name) there.owned in
          changed_before accounts_apart secret (served_world v m changes) s t moves name kept
          (subst (λ (ms : List Move). IsOneChange ms) (sym says_it) (one_change (begins change) changes)) its.0 its.1 its.2 ready.0 ready.1 set token
          (may_adopt now changes moves token identifier uuid fits rule says_it)

      answered_so : (turn : Turn) → BehindAnswer laws.keeps laws.says secret differ name begins v t server p k change of (HasNew s name owner.identifier set)
          (AnswersChange owner sets.present set) turn
      answered_so turn now changes (answer.Account token identifier uuid) moves later fates fits rule says_it stands so over =
          adopts_new owner set token (served_world v m changes) (end_from t moves) (rows_after server changes) heard later fates turn stands (
            record { may = may_adopt now changes moves token identifier uuid fits rule says_it; owned = holds.owned },
            before now changes moves token identifier uuid fits rule says_it stands.holds,
          ) so over
      -- none is for a wrong token or password
      answered_so turn now changes (answer.Refused status tag more) moves later fates fits rule says_it stands (inl (denied, so)) over =
          let by_rule : Rule v.server change now changes (answer.Refused status tag more) =
          subst (λ (x : Rows). Rule x change now changes (answer.Refused status tag more)) (sym k.server_is) rule in
          absurd (not_denied accounts_apart secret v t k.holds name owner (with_asked sets set) there (last_alone t name ready.0) by_rule.0 by_rule.1 set.pw set.params.pw_cost
          set.params.pw_nonce changes (answer.Refused status tag more) status tag more refl by_rule.2 denied)
      answered_so turn now changes (answer.Refused status tag more) moves later fates fits rule says_it stands (inr (other, so)) over =
          drops_goes laws secret differ name begins (refusal.Refused status tag) (λ x u q. Unit {0}) (HasNew s name owner.identifier set) (served_world v m changes)
          (end_from t moves) (rows_after server changes) heard later fates turn stands tt so over
      answered_so turn now changes (answer.Params params) moves later fates fits rule says_it stands so over = absurd so
      answered_so turn now changes (answer.Sync conflicts cursor retrieved saved token) moves later fates fits rule says_it stands so over = absurd so

    asks_host : PieceGoes secret name begins (AsksHost change (AnswersChange owner sets.present set)) (HoldsSets s name owner (with_asked sets set))
        (HasNew s name owner.identifier set)
    asks_host v t server p acts fates turn k (holds, ready) so over =
        asks_host_goes laws.keeps laws.says secret differ name begins v t server p k change (of v t server p k holds ready) (HasNew s name owner.identifier set)
        (AnswersChange owner sets.present set) acts fates turn (answered_so v t server p k holds ready turn) so over

    asks_this_goes : PieceGoes secret name begins (AsksThis owner sets.present set) (HoldsSets s name owner sets) (HasNew s name owner.identifier set)
    asks_this_goes =
        then_goes laws.keeps laws.says secret differ name begins (CommitsStep (asks set)) (AsksHost change (AnswersChange owner sets.present set))
        (HoldsSets s name owner sets) (HoldsSets s name owner (with_asked sets set)) (HasNew s name owner.identifier set) keeps_asked asks_host

  -- wherever the device holds its account's last set alone, and its request would begin the new one
  pub asks_drawn_goes : (password : Bytes) (cost : ℕ) (owner : OwnerRow) (sets : Sets) (set : KeySet) (left : ChaCha) (Pre : Known)
      → ((v : World) (t : Ideal) (p : Point) → Pre v t p → IsReady s name t)
      → ((v : World) (t : Ideal) (p : Point) → Pre v t p → HasSets p.rows owner sets → begins (change_to owner sets.present set) ≡ Some set)
      → PieceGoes secret name begins (AsksDrawn password cost owner sets set left) Pre (HasNew s name owner.identifier set)
  asks_drawn_goes password cost owner sets set left Pre ready begins_set v t server p acts fates turn k pre (holds, new, so) over =
      asks_this_goes owner sets set (begins_set v t p pre holds) v t server (record { made = p.made; rows = p.rows; words = left }) acts fates turn k
      (holds, ready v t p pre) so over

-- the set is the keys of the password, of this cost
abbrev pub IsSetFor : Bytes → ℕ → KeySet → Type 0
IsSetFor password cost set = AreKeysOf password set.params set × (set.params.pw_cost ≡ cost)

-- so is the set that is drawn
pub drawn_keys : (password : Bytes) (cost : ℕ) (owner : OwnerRow) (sets : Sets) (set : KeySet) (left : ChaCha) (p : Point) (acts : List Act) (turn : Turn)
    → AsksDrawn password cost owner sets set left p acts turn → IsSetFor password cost set
drawn_keys password cost owner sets set left p acts turn (holds, new, so) = (new.keys, new.cost_is)
