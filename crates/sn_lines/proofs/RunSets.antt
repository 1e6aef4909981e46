-- Which commits a run makes, or fails in: what holds of those of its pieces holds of all of them.
use Rattle.std.proofs.Common.{◌≡◌, ℕ, suc, List, [], ◌∷◌, Some, sym, subst, inl, inr}
use Rattle.std.specs.List.{flat_map}
use Rattle.std.specs.Prelude.{codes}
use Rattle.std.proofs.lemmas.List.Concat.{flat_map-cons}
use Rattle.rand_chacha.specs.ChaCha.{ChaCha}
use Rattle.sn_device.specs.Asking.{Reply, lost, said, unheard, unread}
use Rattle.sn_device.specs.Runs.{Act, AdoptsOrDrops, AdoptsOrKeeps, AnswersChange, AnswersNothing, AsksAccount, AsksFirst, AsksFor, AsksHost, ChangesTo, CommitsOnce, CommitsStep, Drops, DropsOrKeeps, EndsBehind, EndsBy, EndsExchange, EndsSync, Exchanges, Finds, FindsParams, Given, Halt, Hears, KeepsAccount, Point, Refuses, Resolves, Round, Standing, StopsAt, SyncsUnder, Then, Turn, WithAccount, WithContent, WithItem, acts_of, answered, asked, broken, change_to, commits, goes_on, is_over, nothing, posting, refused}
use Rattle.sn_device.specs.States.{Bytes, HasSets}
use Rattle.sn_device.specs.Steps.{What, adopts, applies, asks, forgets, posts}
use Rattle.sn_device.specs.declared.error.ClientError.{ClientError}
use Rattle.sn_device.specs.declared.error.ClientError.TheVariants as refusal
use Rattle.sn_keys.specs.Keys.{AreKeysOf}
use Rattle.sn_laws.specs.Each.{Each}
use Rattle.sn_rows.specs.Table.{Rows}
use Rattle.sn_rows.specs.declared.change.Change.{Change}
use Rattle.sn_rows.specs.declared.device_rows.OwnerRow.{OwnerRow}
use Rattle.sn_sets.specs.declared.sets.Sets.{Sets}
use Rattle.sn_string.specs.declared.params.KeySet.{KeySet}
use Rattle.sn_string.specs.declared.params.Params.{Params}
use Rattle.sn_sync.specs.declared.answer.Answer.{Answer}
use Rattle.sn_sync.specs.declared.answer.Answer.TheVariants as answer
use Rattle.sn_sync.specs.declared.request.Request.{Request}
use Rattle.sn_sync.specs.declared.request.Request.TheVariants as request
use Rattle.sn_world.proofs.Facts.{each_both}

-- of what is committed
module _ (P : What → Type 0) where
  abbrev pub IsActOf : Act → Type 0
  IsActOf (commits what changes) = P what
  IsActOf (asked r reply) = Unit {0}

  abbrev pub IsHaltOf : Halt → Type 0
  IsHaltOf (answered given left) = Unit {0}
  IsHaltOf (refused why) = Unit {0}
  IsHaltOf (broken what changes) = P what

  -- of each commit that is made, and of that in which the disk fails
  abbrev pub IsAllOf : List Act → Halt → Type 0
  IsAllOf acts halt = Each IsActOf acts × IsHaltOf halt

  none_so : (acts : List Act) → acts ≡ [] → Each IsActOf acts
  none_so acts none = subst (Each IsActOf) (sym none) tt

  pub refuses_so : (acts : List Act) (halt : Halt) (why : ClientError) → Refuses acts halt why → IsAllOf acts halt
  refuses_so acts halt why (none, is) = (none_so acts none, subst IsHaltOf (sym is) tt)

  pub answers_so : (acts : List Act) (halt : Halt) (given : Given) (left : ChaCha) → acts ≡ [] → halt ≡ answered given left → IsAllOf acts halt
  answers_so acts halt given left none is = (none_so acts none, subst IsHaltOf (sym is) tt)

  stops_so : (what : What) (changes : List Change) (halt : Halt) → P what → StopsAt what changes halt → IsHaltOf halt
  stops_so what changes halt of (inl (batch, is)) = subst IsHaltOf (sym is) of
  stops_so what changes halt of (inr (inl (large, is))) = subst IsHaltOf (sym is) tt
  stops_so what changes halt of (inr (inr is)) = subst IsHaltOf (sym is) tt

  -- ---- one commit, or one request

  pub once_so : (rows : Rows) (words : ChaCha) (what : What) (given : Given) (acts : List Act) (halt : Halt) → P what
      → CommitsOnce rows words what given acts halt → IsAllOf acts halt
  once_so rows words what given acts halt of (changes, left, step, inl (batch, e, ends)) = (subst (Each IsActOf) (sym e) (of, tt), subst IsHaltOf (sym ends) tt)
  once_so rows words what given acts halt of (changes, left, step, inr (none, stops)) = (none_so acts none, stops_so what changes halt of stops)

  behind_request : (r : Request) (reply : Reply) (acts later : List Act) (halt : Halt) → acts ≡ asked r reply ∷ later → IsAllOf later halt → IsAllOf acts halt
  behind_request r reply acts later halt e x = (subst (Each IsActOf) (sym e) (tt, x.0), x.1)

  pub asks_so : (r : Request) (Q : Answer → List Act → Halt → Type 0) (acts : List Act) (halt : Halt)
      → ((given : Answer) (later : List Act) → Q given later halt → IsAllOf later halt) → AsksFirst r Q acts halt → IsAllOf acts halt
  asks_so r Q acts halt so (reply, later, e, inl (why, fails, refuses)) = behind_request r reply acts later halt e (refuses_so later halt why refuses)
  asks_so r Q acts halt so (reply, later, e, inr (inl wants)) = behind_request r reply acts later halt e (refuses_so later halt refusal.Memory wants)
  asks_so r Q acts halt so (reply, later, e, inr (inr (given, is, q))) = behind_request r reply acts later halt e (so given later q)

  pub owner_so : (rows : Rows) (words : ChaCha) (r : Request) (what : Bytes → Bytes → What) (acts : List Act) (halt : Halt)
      → ((uuid token : Bytes) → P (what uuid token)) → AsksAccount rows words r what acts halt → IsAllOf acts halt
  owner_so rows words r what acts halt of asking =
      asks_so r (KeepsAccount rows words what) acts halt
      (λ given later q. once_so rows words (what q.2 q.0) nothing later halt (of q.2 q.0) q.4) asking

  -- ---- a device's own items

  pub account_so : (rows : Rows) (Q : OwnerRow → Sets → List Act → Halt → Type 0) (acts : List Act) (halt : Halt)
      → ((owner : OwnerRow) (sets : Sets) → HasSets rows owner sets → Q owner sets acts halt → IsAllOf acts halt) → WithAccount rows Q acts halt
      → IsAllOf acts halt
  account_so rows Q acts halt so (inl (none, refuses)) = refuses_so acts halt refusal.NoAccount refuses
  account_so rows Q acts halt so (inr (owner, sets, holds, q)) = so owner sets holds q

  pub content_so : (text : Bytes) (Q : List Act → Halt → Type 0) (acts : List Act) (halt : Halt) → (Q acts halt → IsAllOf acts halt)
      → WithContent text Q acts halt → IsAllOf acts halt
  content_so text Q acts halt so (inl (long, refuses)) = refuses_so acts halt _ refuses
  content_so text Q acts halt so (inr (short, inl (other, refuses))) = refuses_so acts halt refusal.NotObject refuses
  content_so text Q acts halt so (inr (short, inr (object, q))) = so q

  pub item_so : (rows : Rows) (sets : Sets) (uuid : Bytes) (Q : Bytes → List Act → Halt → Type 0) (acts : List Act) (halt : Halt)
      → ((shown : Bytes) → Q shown acts halt → IsAllOf acts halt) → WithItem rows sets uuid Q acts halt → IsAllOf acts halt
  item_so rows sets uuid Q acts halt so (inl (gone, refuses)) = refuses_so acts halt (refusal.NoItem uuid) refuses
  item_so rows sets uuid Q acts halt so (inr (number, local, stands, undeleted, inl (nonce, closed, refuses))) =
      refuses_so acts halt (refusal.Closed nonce) refuses
  item_so rows sets uuid Q acts halt so (inr (number, local, stands, undeleted, inr (shown, shows, q))) = so shown q

  -- ---- pieces of a call

  abbrev IsTurnOf : Turn → Type 0
  IsTurnOf (goes_on p) = Unit {0}
  IsTurnOf (is_over halt) = IsHaltOf halt

  abbrev HasSo : List Act → Turn → Type 0
  HasSo acts turn = Each IsActOf acts × IsTurnOf turn

  -- a piece of a call has it, wherever it begins
  abbrev pub Has : (Point → List Act → Turn → Type 0) → Type 0
  Has piece = (p : Point) (acts : List Act) (turn : Turn) → piece p acts turn → HasSo acts turn

  ends_has : (why : ClientError) (p : Point) (acts : List Act) (turn : Turn) → EndsBy why p acts turn → HasSo acts turn
  ends_has why p acts turn (none, e) = (none_so acts none, subst IsTurnOf (sym e) tt)

  pub then_has : (first next : Point → List Act → Turn → Type 0) → Has first → Has next → Has (Then first next)
  then_has first next one two p acts turn (inl (halt, over, e)) =
      let x = one p acts (is_over halt) over in
      (x.0, subst IsTurnOf (sym e) x.1)
  then_has first next one two p acts turn (inr (front, q, later, goes, behind, e)) =
      let x = two q later turn behind in
      (subst (Each IsActOf) (sym e) (each_both IsActOf front later (one p front (goes_on q) goes).0 x.0), x.1)

  commit_has : (what : What) → P what → Has (CommitsStep what)
  commit_has what of p acts turn (inl ends) = ends_has refusal.Memory p acts turn ends
  commit_has what of p acts turn (inr (changes, left, step, inl (batch, e, goes))) =
      (subst (Each IsActOf) (sym e) (of, tt), subst IsTurnOf (sym goes) tt)
  commit_has what of p acts turn (inr (changes, left, step, inr (halt, none, stops, e))) =
      (none_so acts none, subst IsTurnOf (sym e) (stops_so what changes halt of stops))

  -- so does each answer's piece
  abbrev HasEach : (Answer → Point → List Act → Turn → Type 0) → Type 0
  HasEach next = (given : Answer) → Has (next given)

  hears_has : (next : Answer → Point → List Act → Turn → Type 0) → HasEach next → (reply : Reply) → Has (Hears next reply)
  hears_has next so lost p acts turn (inl ends) = ends_has refusal.LinkFault p acts turn ends
  hears_has next so lost p acts turn (inr ends) = ends_has refusal.Memory p acts turn ends
  hears_has next so unheard p acts turn ends = ends_has refusal.Memory p acts turn ends
  hears_has next so (unread at) p acts turn (inl ends) = ends_has (refusal.BadAnswer at) p acts turn ends
  hears_has next so (unread at) p acts turn (inr ends) = ends_has refusal.Memory p acts turn ends
  hears_has next so (said given) p acts turn (inl ends) = ends_has refusal.Memory p acts turn ends
  hears_has next so (said given) p acts turn (inr goes) = so given p acts turn goes

  asks_has : (r : Request) (next : Answer → Point → List Act → Turn → Type 0) → HasEach next → Has (AsksHost r next)
  asks_has r next so p acts turn (inl ends) = ends_has refusal.Memory p acts turn ends
  asks_has r next so p acts turn (inr (inl (most, ends))) = ends_has refusal.RoundsUsed p acts turn ends
  asks_has r next so p acts turn (inr (inr (less, (reply, later, e, hears)))) =
      let x = hears_has next so reply (record { made = suc p.made; rows = p.rows; words = p.words }) later turn hears in
      (subst (Each IsActOf) (sym e) (tt, x.0), x.1)

  pub nothing_so : (piece : Point → List Act → Turn → Type 0) → Has piece → (p : Point) (acts : List Act) (halt : Halt) → AnswersNothing piece p acts halt
      → IsAllOf acts halt
  nothing_so piece so p acts halt (inl over) = so p acts (is_over halt) over
  nothing_so piece so p acts halt (inr (q, goes, e)) = ((so p acts (goes_on q) goes).0, subst IsHaltOf (sym e) tt)

  -- ---- exchanges until nothing is left

  module _ (posts_of : (numbers : List ℕ) → P (posts numbers)) (applies_of : (r : Request) (given : Answer) → P (applies r given)) (forgets_of : P forgets) where
    posting_so : (numbers : List ℕ) (posted : List Change) → Each IsActOf (posting numbers posted)
    posting_so [] posted = tt
    posting_so (number ∷ numbers) posted = (posts_of (number ∷ numbers), tt)

    round_so : (round : Round) → Each IsActOf (acts_of round)
    round_so round =
        each_both IsActOf (posting round.numbers round.posted) (asked round.request (said round.given) ∷ commits (applies round.request round.given) round.applied ∷ [])
        (posting_so round.numbers round.posted) (tt, (applies_of round.request round.given, tt))

    rounds_so : (rounds : List Round) → Each IsActOf (flat_map acts_of rounds)
    rounds_so [] = tt
    rounds_so (round ∷ rounds) =
        subst (Each IsActOf) (sym (flat_map-cons acts_of round rounds))
        (each_both IsActOf (acts_of round) (flat_map acts_of rounds) (round_so round) (rounds_so rounds))

    behind_so : (rows : Rows) (words : ChaCha) (r : Request) (reply : Reply) (halt : Halt) → EndsBehind rows words r reply halt → IsHaltOf halt
    behind_so rows words r reply halt (inl (why, fails, is)) = subst IsHaltOf (sym is) tt
    behind_so rows words r reply halt (inr (inl is)) = subst IsHaltOf (sym is) tt
    behind_so rows words r reply halt (inr (inr (given, heard, inl (why, unapplied, is)))) = subst IsHaltOf (sym is) tt
    behind_so rows words r reply halt (inr (inr (given, heard, inr (changes, left, step, stops)))) =
        stops_so (applies r given) changes halt (applies_of r given) stops

    exchange_so : (words : ChaCha) (numbers : List ℕ) (posted : List Change) (r : Request) (ready : Rows) (acts : List Act) (halt : Halt)
        → EndsExchange words numbers posted r ready acts halt → IsAllOf acts halt
    exchange_so words numbers posted r ready acts halt (inl (some, none, stops)) =
        (none_so acts none, stops_so (posts numbers) posted halt (posts_of numbers) stops)
    exchange_so words numbers posted r ready acts halt (inr (batch, inl (e, is))) =
        (subst (Each IsActOf) (sym e) (posting_so numbers posted), subst IsHaltOf (sym is) tt)
    exchange_so words numbers posted r ready acts halt (inr (batch, inr (reply, e, ends))) = (
      subst (Each IsActOf) (sym e) (each_both IsActOf (posting numbers posted) (asked r reply ∷ []) (posting_so numbers posted) (tt, tt)),
      behind_so ready words r reply halt ends,
    )

    end_has : (count : ℕ) (at : Standing) (acts : List Act) (turn : Turn) → EndsSync count at acts turn → HasSo acts turn
    end_has count at acts turn (inl (done, none, goes)) = (none_so acts none, subst IsTurnOf (sym goes) tt)
    end_has count at acts turn (inr (halt, e, inl (all, due, refuses))) =
        let x = refuses_so acts halt refusal.RoundsUsed refuses in
        (x.0, subst IsTurnOf (sym e) x.1)
    end_has count at acts turn (inr (halt, e, inr (inl (few, ends)))) =
        let x = exchange_so at.words ends.numbers ends.posted ends.request ends.ready acts halt ends.ends_so in
        (x.0, subst IsTurnOf (sym e) x.1)
    end_has count at acts turn (inr (halt, e, inr (inr wants))) =
        let x = refuses_so acts halt refusal.Memory wants in
        (x.0, subst IsTurnOf (sym e) x.1)

    exchanges_have : Has Exchanges
    exchanges_have p acts turn x =
        let end = end_has _ x.at x.later turn x.ends in
        (subst (Each IsActOf) (sym x.acts_are) (each_both IsActOf (flat_map acts_of x.rounds) x.later (rounds_so x.rounds) end.0), end.1)

    -- ---- a set that is asked for

    drops_has : (why : ClientError) → Has (Drops why)
    drops_has why = then_has (CommitsStep forgets) (EndsBy why) (commit_has forgets forgets_of) (ends_has why)

    drops_or_keeps : (status : ℕ) (tag : Bytes) → Has (DropsOrKeeps status tag)
    drops_or_keeps status tag p acts turn (inl (is, drops)) = drops_has (refusal.Refused status tag) p acts turn drops
    drops_or_keeps status tag p acts turn (inr (isnt, ends)) = ends_has (refusal.Refused status tag) p acts turn ends

    module _ (owner : OwnerRow) (present set : KeySet) (adopts_of : (token : Bytes) → P (adopts set token)) where
      adopts_or_drops : HasEach (AdoptsOrDrops set)
      adopts_or_drops (answer.Account token identifier uuid) p acts turn commits_so = commit_has (adopts set token) (adopts_of token) p acts turn commits_so
      adopts_or_drops (answer.Refused status tag more) p acts turn drops = drops_has (refusal.Refused status tag) p acts turn drops
      adopts_or_drops (answer.Params params) p acts turn wrong = absurd wrong
      adopts_or_drops (answer.Sync conflicts cursor retrieved saved token) p acts turn wrong = absurd wrong

      adopts_or_keeps : HasEach (AdoptsOrKeeps set)
      adopts_or_keeps (answer.Account token identifier uuid) p acts turn commits_so = commit_has (adopts set token) (adopts_of token) p acts turn commits_so
      adopts_or_keeps (answer.Refused status tag more) p acts turn goes = drops_or_keeps status tag p acts turn goes
      adopts_or_keeps (answer.Params params) p acts turn wrong = absurd wrong
      adopts_or_keeps (answer.Sync conflicts cursor retrieved saved token) p acts turn wrong = absurd wrong

      finds_params : (params : Params) → Has (FindsParams owner present set params)
      finds_params params p acts turn (inl (unmade, again)) = asks_has (change_to owner present set) (AdoptsOrDrops set) adopts_or_drops p acts turn again
      finds_params params p acts turn (inr (other, inl (was_made, signs))) =
          asks_has (request.SignIn owner.identifier set.pw) (AdoptsOrKeeps set) adopts_or_keeps p acts turn signs
      finds_params params p acts turn (inr (other, inr (neither, drops))) = drops_has (refusal.Refused 401 (codes "bad-auth")) p acts turn drops

      finds_has : HasEach (Finds owner present set)
      finds_has (answer.Params params) p acts turn finds = finds_params params p acts turn finds
      finds_has (answer.Refused status tag more) p acts turn goes = drops_or_keeps status tag p acts turn goes
      finds_has (answer.Account token identifier uuid) p acts turn wrong = absurd wrong
      finds_has (answer.Sync conflicts cursor retrieved saved token) p acts turn wrong = absurd wrong

      resolves_has : Has (Resolves owner present set)
      resolves_has = asks_has (request.Params owner.identifier) (Finds owner present set) finds_has

      answers_change : HasEach (AnswersChange owner present set)
      answers_change (answer.Account token identifier uuid) p acts turn commits_so = commit_has (adopts set token) (adopts_of token) p acts turn commits_so
      answers_change (answer.Refused status tag more) p acts turn (inl (is, resolves)) = resolves_has p acts turn resolves
      answers_change (answer.Refused status tag more) p acts turn (inr (isnt, drops)) = drops_has (refusal.Refused status tag) p acts turn drops
      answers_change (answer.Params params) p acts turn wrong = absurd wrong
      answers_change (answer.Sync conflicts cursor retrieved saved token) p acts turn wrong = absurd wrong

      changed_has : P (asks set) → Has (Then (CommitsStep (asks set)) (AsksHost (change_to owner present set) (AnswersChange owner present set)))
      changed_has asks_of =
          then_has (CommitsStep (asks set)) (AsksHost (change_to owner present set) (AnswersChange owner present set)) (commit_has (asks set) asks_of)
          (asks_has (change_to owner present set) (AnswersChange owner present set) answers_change)

    -- where it holds of the adoption of a set that was asked for before
    pub syncs_have : (owner : OwnerRow) (sets : Sets) → ((set : KeySet) (token : Bytes) → sets.asked ≡ Some set → P (adopts set token)) → Has (SyncsUnder owner sets)
    syncs_have owner sets adopts_of p acts turn (inl (none, exchanges)) = exchanges_have p acts turn exchanges
    syncs_have owner sets adopts_of p acts turn (inr (set, some, syncs)) =
        then_has (Resolves owner sets.present set) Exchanges (resolves_has owner sets.present set (λ token. adopts_of set token some)) exchanges_have p acts turn syncs

    -- and of asking for a set of the new password, and adopting it
    module _ (password : Bytes) (cost : ℕ) (new_of : (set : KeySet) → AreKeysOf password set.params set → P (asks set) × ((token : Bytes) → P (adopts set token))) where
      asks_for_has : Has (AsksFor password cost)
      asks_for_has p acts turn (inl ends) = ends_has refusal.Memory p acts turn ends
      asks_for_has p acts turn (inr (owner, sets, holds, inl (why, refuses, ends))) = ends_has why p acts turn ends
      asks_for_has p acts turn (inr (owner, sets, holds, inr (may, inl (most, ends)))) = ends_has refusal.RoundsUsed p acts turn ends
      asks_for_has p acts turn (inr (owner, sets, holds, inr (may, inr (less, (set, left, new, goes))))) =
          let of = new_of set new.keys in
          changed_has owner sets.present set of.1 of.0 (record { made = p.made; rows = p.rows; words = left }) acts turn goes

      pub changes_have : (owner : OwnerRow) (sets : Sets) → ((set : KeySet) (token : Bytes) → sets.asked ≡ Some set → P (adopts set token))
          → Has (ChangesTo password cost owner sets)
      changes_have owner sets adopts_of =
          then_has (SyncsUnder owner sets) (Then (AsksFor password cost) Exchanges) (syncs_have owner sets adopts_of)
          (then_has (AsksFor password cost) Exchanges asks_for_has exchanges_have)
