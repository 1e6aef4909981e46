-- What holds of the commits and the requests of a call, each commit behind the request that came right before it: what holds of the call's pieces holds of
-- all of it.
use Rattle.std.proofs.Common.{◌≡◌, ◌++◌, ℕ, suc, List, [], ◌∷◌, Option, Some, None, sym, subst, inl, inr}
use Rattle.std.specs.List.{flat_map}
use Rattle.std.specs.Prelude.{codes}
use Rattle.std.proofs.lemmas.List.Concat.{flat_map-cons}
use Rattle.rand_chacha.specs.ChaCha.{ChaCha}
use Rattle.sn_device.specs.Asking.{Reply, lost, said, unheard, unread}
use Rattle.sn_device.specs.Runs.{Act, AdoptsOrDrops, AdoptsOrKeeps, AnswersChange, AnswersNothing, AreRounds, AsksAccount, AsksFirst, AsksFor, AsksHost, ChangesTo, CommitsOnce, CommitsStep, Drops, DropsOrKeeps, EndsBy, EndsExchange, EndsSync, Exchanges, Finds, FindsParams, Given, Halt, Hears, IsRound, KeepsAccount, Point, Resolves, Round, Sends, Standing, SyncsUnder, Then, Turn, WithAccount, WithContent, WithItem, acts_of, asked, change_to, commits, goes_on, is_over, nothing, posting}
use Rattle.sn_device.specs.Sending.{IsSyncOf, Numbered}
use Rattle.sn_device.specs.States.{Bytes}
use Rattle.sn_device.specs.Steps.{What, adopts, applies, asks, forgets, posts}
use Rattle.sn_device.specs.declared.error.ClientError.{ClientError}
use Rattle.sn_device.specs.declared.error.ClientError.TheVariants as refusal
use Rattle.sn_rows.specs.Table.{Rows}
use Rattle.sn_rows.specs.declared.change.Change.{Change}
use Rattle.sn_rows.specs.declared.device_rows.OwnerRow.{OwnerRow}
use Rattle.sn_sets.specs.declared.sets.Sets.{Sets}
use Rattle.sn_string.specs.declared.params.KeySet.{KeySet}
use Rattle.sn_string.specs.declared.params.Params.{Params}
use Rattle.sn_sync.specs.declared.answer.Answer.{Answer}
use Rattle.sn_sync.specs.declared.answer.Answer.TheVariants as answer
use Rattle.sn_sync.specs.declared.request.Request.{Request}
use Rattle.sn_sync.specs.declared.request.Request.TheVariants as request

-- the request right before, with its reply; none before the first act, and behind a commit
abbrev pub Last : Type 0
Last = Option (Request × Reply)

-- of a registration its parameters are so; of another request nothing is said
abbrev pub IsAskedSo : (Params → Type 0) → Request → Type 0
IsAskedSo of (request.Register params pw) = of params
IsAskedSo of (request.Params identifier) = Unit {0}
IsAskedSo of (request.SignIn identifier pw) = Unit {0}
IsAskedSo of (request.ChangePw token current pw cost nonce) = Unit {0}
IsAskedSo of (request.Sync token items limit sync_token cursor_token) = Unit {0}

module _ (C : Last → What → Type 0) (of : Params → Type 0) where
  -- each commit is so, behind what came right before it, and each request
  abbrev pub AreActs : Last → List Act → Type 0
  AreActs last [] = Unit {0}
  AreActs last (commits what changes ∷ acts) = C last what × AreActs None acts
  AreActs last (asked r reply ∷ acts) = IsAskedSo of r × AreActs (Some (r, reply)) acts

  -- wherever they begin
  abbrev pub AreFrom : List Act → Type 0
  AreFrom acts = (last : Last) → AreActs last acts

  abbrev pub Always : What → Type 0
  Always what = (last : Last) → C last what

  pub none_from : (acts : List Act) → acts ≡ [] → AreFrom acts
  none_from acts none last = subst (AreActs last) (sym none) tt

  both_from : (last : Last) (front later : List Act) → AreActs last front → AreFrom later → AreActs last (front ++ later)
  both_from last [] later one two = two last
  both_from last (commits what changes ∷ front) later one two = (one.0, both_from None front later one.1 two)
  both_from last (asked r reply ∷ front) later one two = (one.0, both_from (Some (r, reply)) front later one.1 two)

  -- ---- one commit, or one request

  pub once_from : (rows : Rows) (words : ChaCha) (what : What) (given : Given) (acts : List Act) (halt : Halt) → Always what
      → CommitsOnce rows words what given acts halt → AreFrom acts
  once_from rows words what given acts halt so (changes, left, step, inl (batch, e, ends)) last = subst (AreActs last) (sym e) (so last, tt)
  once_from rows words what given acts halt so (changes, left, step, inr (none, stops)) last = none_from acts none last

  behind_request : (r : Request) (reply : Reply) (acts later : List Act) → acts ≡ asked r reply ∷ later → IsAskedSo of r → AreFrom later → AreFrom acts
  behind_request r reply acts later e is so last = subst (AreActs last) (sym e) (is, so (Some (r, reply)))

  pub asks_from : (r : Request) (Q : Answer → List Act → Halt → Type 0) (acts : List Act) (halt : Halt) → IsAskedSo of r
      → ((given : Answer) (later : List Act) → Q given later halt → AreFrom later) → AsksFirst r Q acts halt → AreFrom acts
  asks_from r Q acts halt is so (reply, later, e, inl (why, fails, refuses)) = behind_request r reply acts later e is (none_from later refuses.0)
  asks_from r Q acts halt is so (reply, later, e, inr (inl wants)) = behind_request r reply acts later e is (none_from later wants.0)
  asks_from r Q acts halt is so (reply, later, e, inr (inr (given, heard, q))) = behind_request r reply acts later e is (so given later q)

  pub owner_from : (rows : Rows) (words : ChaCha) (r : Request) (what : Bytes → Bytes → What) (acts : List Act) (halt : Halt) → IsAskedSo of r
      → ((uuid token : Bytes) → Always (what uuid token)) → AsksAccount rows words r what acts halt → AreFrom acts
  owner_from rows words r what acts halt is so asking =
      asks_from r (KeepsAccount rows words what) acts halt is
      (λ given later q. once_from rows words (what q.2 q.0) nothing later halt (so q.2 q.0) q.4) asking

  -- ---- a device's own items

  pub account_from : (rows : Rows) (Q : OwnerRow → Sets → List Act → Halt → Type 0) (acts : List Act) (halt : Halt)
      → ((owner : OwnerRow) (sets : Sets) → Q owner sets acts halt → AreFrom acts) → WithAccount rows Q acts halt → AreFrom acts
  account_from rows Q acts halt so (inl (none, refuses)) = none_from acts refuses.0
  account_from rows Q acts halt so (inr (owner, sets, holds, q)) = so owner sets q

  pub content_from : (text : Bytes) (Q : List Act → Halt → Type 0) (acts : List Act) (halt : Halt) → (Q acts halt → AreFrom acts)
      → WithContent text Q acts halt → AreFrom acts
  content_from text Q acts halt so (inl (long, refuses)) = none_from acts refuses.0
  content_from text Q acts halt so (inr (short, inl (other, refuses))) = none_from acts refuses.0
  content_from text Q acts halt so (inr (short, inr (object, q))) = so q

  pub item_from : (rows : Rows) (sets : Sets) (uuid : Bytes) (Q : Bytes → List Act → Halt → Type 0) (acts : List Act) (halt : Halt)
      → ((shown : Bytes) → Q shown acts halt → AreFrom acts) → WithItem rows sets uuid Q acts halt → AreFrom acts
  item_from rows sets uuid Q acts halt so (inl (gone, refuses)) = none_from acts refuses.0
  item_from rows sets uuid Q acts halt so (inr (number, local, stands, undeleted, inl (nonce, closed, refuses))) = none_from acts refuses.0
  item_from rows sets uuid Q acts halt so (inr (number, local, stands, undeleted, inr (shown, shows, q))) = so shown q

  -- ---- pieces of a call

  -- a piece has it, wherever it begins
  abbrev pub Has : (Point → List Act → Turn → Type 0) → Type 0
  Has piece = (p : Point) (acts : List Act) (turn : Turn) → piece p acts turn → AreFrom acts

  -- so does each answer's piece
  abbrev HasEach : (Answer → Point → List Act → Turn → Type 0) → Type 0
  HasEach next = (given : Answer) → Has (next given)

  ends_has : (why : ClientError) → Has (EndsBy why)
  ends_has why p acts turn (none, e) = none_from acts none

  then_has : (first next : Point → List Act → Turn → Type 0) → Has first → Has next → Has (Then first next)
  then_has first next one two p acts turn (inl (halt, over, e)) last = one p acts (is_over halt) over last
  then_has first next one two p acts turn (inr (front, q, later, goes, behind, e)) last =
      subst (AreActs last) (sym e) (both_from last front later (one p front (goes_on q) goes last) (two q later turn behind))

  commit_has : (what : What) → Always what → Has (CommitsStep what)
  commit_has what so p acts turn (inl ends) last = ends_has refusal.Memory p acts turn ends last
  commit_has what so p acts turn (inr (changes, left, step, inl (batch, e, goes))) last = subst (AreActs last) (sym e) (so last, tt)
  commit_has what so p acts turn (inr (changes, left, step, inr (halt, none, stops, e))) last = none_from acts none last

  hears_has : (next : Answer → Point → List Act → Turn → Type 0) → HasEach next → (reply : Reply) → Has (Hears next reply)
  hears_has next so lost p acts turn (inl ends) = ends_has refusal.LinkFault p acts turn ends
  hears_has next so lost p acts turn (inr ends) = ends_has refusal.Memory p acts turn ends
  hears_has next so unheard p acts turn ends = ends_has refusal.Memory p acts turn ends
  hears_has next so (unread at) p acts turn (inl ends) = ends_has (refusal.BadAnswer at) p acts turn ends
  hears_has next so (unread at) p acts turn (inr ends) = ends_has refusal.Memory p acts turn ends
  hears_has next so (said given) p acts turn (inl ends) = ends_has refusal.Memory p acts turn ends
  hears_has next so (said given) p acts turn (inr goes) = so given p acts turn goes

  asks_has : (r : Request) (next : Answer → Point → List Act → Turn → Type 0) → IsAskedSo of r → HasEach next → Has (AsksHost r next)
  asks_has r next is so p acts turn (inl ends) = ends_has refusal.Memory p acts turn ends
  asks_has r next is so p acts turn (inr (inl (most, ends))) = ends_has refusal.RoundsUsed p acts turn ends
  asks_has r next is so p acts turn (inr (inr (less, (reply, later, e, hears)))) =
      behind_request r reply acts later e is (hears_has next so reply (record { made = suc p.made; rows = p.rows; words = p.words }) later turn hears)

  pub nothing_from : (piece : Point → List Act → Turn → Type 0) → Has piece → (p : Point) (acts : List Act) (halt : Halt) → AnswersNothing piece p acts halt
      → AreFrom acts
  nothing_from piece so p acts halt (inl over) = so p acts (is_over halt) over
  nothing_from piece so p acts halt (inr (q, goes, e)) = so p acts (goes_on q) goes

  -- ---- exchanges until nothing is left

  module _ (posts_so : (numbers : List ℕ) → Always (posts numbers)) (applies_so : (r : Request) (given : Answer) → C (Some (r, said given)) (applies r given))
      (forgets_so : Always forgets) (adopts_so : (set : KeySet) (token : Bytes) → Always (adopts set token)) where
    sync_so : (owner : OwnerRow) (chosen : List Numbered) (r : Request) → IsSyncOf owner chosen r → IsAskedSo of r
    sync_so owner chosen r x = subst (IsAskedSo of) (sym x.request_is) tt

    sends_so : (rows : Rows) (numbers : List ℕ) (posted : List Change) (r : Request) (ready : Rows) → Sends rows numbers posted r ready → IsAskedSo of r
    sends_so rows numbers posted r ready x = sync_so x.owner x.chosen r x.request_is

    posting_so : (numbers : List ℕ) (posted : List Change) → AreFrom (posting numbers posted)
    posting_so [] posted last = tt
    posting_so (number ∷ numbers) posted last = (posts_so (number ∷ numbers) last, tt)

    round_so : (at : Standing) (round : Round) (after : Standing) → IsRound at round after → AreFrom (acts_of round)
    round_so at round after is last =
        both_from last (posting round.numbers round.posted) (asked round.request (said round.given) ∷ commits (applies round.request round.given) round.applied ∷ [])
        (posting_so round.numbers round.posted last)
        (λ other. (sends_so at.rows round.numbers round.posted round.request is.ready is.sends, (applies_so round.request round.given, tt)))

    rounds_so : (at : Standing) (rounds : List Round) (after : Standing) → AreRounds at rounds after → AreFrom (flat_map acts_of rounds)
    rounds_so at [] after went last = tt
    rounds_so at (round ∷ rounds) after (between, one, others) last =
        subst (AreActs last) (sym (flat_map-cons acts_of round rounds))
        (both_from last (acts_of round) (flat_map acts_of rounds) (round_so at round between one last) (rounds_so between rounds after others))

    exchange_so : (words : ChaCha) (numbers : List ℕ) (posted : List Change) (r : Request) (ready : Rows) (acts : List Act) (halt : Halt) → IsAskedSo of r
        → EndsExchange words numbers posted r ready acts halt → AreFrom acts
    exchange_so words numbers posted r ready acts halt is (inl (some, none, stops)) last = none_from acts none last
    exchange_so words numbers posted r ready acts halt is (inr (batch, inl (e, wants))) last = subst (AreActs last) (sym e) (posting_so numbers posted last)
    exchange_so words numbers posted r ready acts halt is (inr (batch, inr (reply, e, ends))) last =
        subst (AreActs last) (sym e) (both_from last (posting numbers posted) (asked r reply ∷ []) (posting_so numbers posted last) (λ other. (is, tt)))

    end_has : (count : ℕ) (at : Standing) (acts : List Act) (turn : Turn) → EndsSync count at acts turn → AreFrom acts
    end_has count at acts turn (inl (done, none, goes)) = none_from acts none
    end_has count at acts turn (inr (halt, e, inl (all, due, refuses))) = none_from acts refuses.0
    end_has count at acts turn (inr (halt, e, inr (inl (few, ends)))) =
        exchange_so at.words ends.numbers ends.posted ends.request ends.ready acts halt
        (sends_so at.rows ends.numbers ends.posted ends.request ends.ready ends.sends) ends.ends_so
    end_has count at acts turn (inr (halt, e, inr (inr wants))) = none_from acts wants.0

    exchanges_have : Has Exchanges
    exchanges_have p acts turn x last =
        subst (AreActs last) (sym x.acts_are)
        (both_from last (flat_map acts_of x.rounds) x.later
        (rounds_so (record { rows = p.rows; words = p.words; last = None }) x.rounds x.at x.went last) (end_has _ x.at x.later turn x.ends))

    -- ---- a set that is asked for

    drops_has : (why : ClientError) → Has (Drops why)
    drops_has why = then_has (CommitsStep forgets) (EndsBy why) (commit_has forgets forgets_so) (ends_has why)

    drops_or_keeps : (status : ℕ) (tag : Bytes) → Has (DropsOrKeeps status tag)
    drops_or_keeps status tag p acts turn (inl (is, drops)) = drops_has (refusal.Refused status tag) p acts turn drops
    drops_or_keeps status tag p acts turn (inr (isnt, ends)) = ends_has (refusal.Refused status tag) p acts turn ends

    module _ (owner : OwnerRow) (present set : KeySet) where
      adopts_or_drops : HasEach (AdoptsOrDrops set)
      adopts_or_drops (answer.Account token identifier uuid) p acts turn commits_so = commit_has (adopts set token) (adopts_so set token) p acts turn commits_so
      adopts_or_drops (answer.Refused status tag more) p acts turn drops = drops_has (refusal.Refused status tag) p acts turn drops
      adopts_or_drops (answer.Params params) p acts turn wrong = absurd wrong
      adopts_or_drops (answer.Sync conflicts cursor retrieved saved token) p acts turn wrong = absurd wrong

      adopts_or_keeps : HasEach (AdoptsOrKeeps set)
      adopts_or_keeps (answer.Account token identifier uuid) p acts turn commits_so = commit_has (adopts set token) (adopts_so set token) p acts turn commits_so
      adopts_or_keeps (answer.Refused status tag more) p acts turn goes = drops_or_keeps status tag p acts turn goes
      adopts_or_keeps (answer.Params params) p acts turn wrong = absurd wrong
      adopts_or_keeps (answer.Sync conflicts cursor retrieved saved token) p acts turn wrong = absurd wrong

      finds_params : (params : Params) → Has (FindsParams owner present set params)
      finds_params params p acts turn (inl (unmade, again)) = asks_has (change_to owner present set) (AdoptsOrDrops set) tt adopts_or_drops p acts turn again
      finds_params params p acts turn (inr (other, inl (was_made, signs))) =
          asks_has (request.SignIn owner.identifier set.pw) (AdoptsOrKeeps set) tt adopts_or_keeps p acts turn signs
      finds_params params p acts turn (inr (other, inr (neither, drops))) = drops_has (refusal.Refused 401 (codes "bad-auth")) p acts turn drops

      finds_has : HasEach (Finds owner present set)
      finds_has (answer.Params params) p acts turn finds = finds_params params p acts turn finds
      finds_has (answer.Refused status tag more) p acts turn goes = drops_or_keeps status tag p acts turn goes
      finds_has (answer.Account token identifier uuid) p acts turn wrong = absurd wrong
      finds_has (answer.Sync conflicts cursor retrieved saved token) p acts turn wrong = absurd wrong

      resolves_has : Has (Resolves owner present set)
      resolves_has = asks_has (request.Params owner.identifier) (Finds owner present set) tt finds_has

      answers_change : HasEach (AnswersChange owner present set)
      answers_change (answer.Account token identifier uuid) p acts turn commits_so = commit_has (adopts set token) (adopts_so set token) p acts turn commits_so
      answers_change (answer.Refused status tag more) p acts turn (inl (is, resolves)) = resolves_has p acts turn resolves
      answers_change (answer.Refused status tag more) p acts turn (inr (isnt, drops)) = drops_has (refusal.Refused status tag) p acts turn drops
      answers_change (answer.Params params) p acts turn wrong = absurd wrong
      answers_change (answer.Sync conflicts cursor retrieved saved token) p acts turn wrong = absurd wrong

      changed_has : Always (asks set) → Has (Then (CommitsStep (asks set)) (AsksHost (change_to owner present set) (AnswersChange owner present set)))
      changed_has so =
          then_has (CommitsStep (asks set)) (AsksHost (change_to owner present set) (AnswersChange owner present set)) (commit_has (asks set) so)
          (asks_has (change_to owner present set) (AnswersChange owner present set) tt answers_change)

    pub syncs_have : (owner : OwnerRow) (sets : Sets) → Has (SyncsUnder owner sets)
    syncs_have owner sets p acts turn (inl (none, exchanges)) = exchanges_have p acts turn exchanges
    syncs_have owner sets p acts turn (inr (set, some, syncs)) =
        then_has (Resolves owner sets.present set) Exchanges (resolves_has owner sets.present set) exchanges_have p acts turn syncs

    -- and where a new set is asked for
    module _ (asks_so : (set : KeySet) → Always (asks set)) (password : Bytes) (cost : ℕ) where
      asks_for_has : Has (AsksFor password cost)
      asks_for_has p acts turn (inl ends) = ends_has refusal.Memory p acts turn ends
      asks_for_has p acts turn (inr (owner, sets, holds, inl (why, refuses, ends))) = ends_has why p acts turn ends
      asks_for_has p acts turn (inr (owner, sets, holds, inr (may, inl (most, ends)))) = ends_has refusal.RoundsUsed p acts turn ends
      asks_for_has p acts turn (inr (owner, sets, holds, inr (may, inr (less, (set, left, new, goes))))) =
          changed_has owner sets.present set (asks_so set) (record { made = p.made; rows = p.rows; words = left }) acts turn goes

      pub changes_have : (owner : OwnerRow) (sets : Sets) → Has (ChangesTo password cost owner sets)
      changes_have owner sets =
          then_has (SyncsUnder owner sets) (Then (AsksFor password cost) Exchanges) (syncs_have owner sets)
          (then_has (AsksFor password cost) Exchanges asks_for_has exchanges_have)
