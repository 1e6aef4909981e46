-- The requests of a call's pieces are within the bounds of those that are read, and a piece goes on from rows of which the next ones are.
use Rattle.std.proofs.Common.{◌≡◌, ℕ, suc, List, [], ◌∷◌, ◌++◌, Some, None, refl, sym, ap, ◌∙◌, subst, inl, inr, append_assoc}
use Rattle.std.specs.List.{flat_map}
use Rattle.std.specs.Prelude.{codes}
use Rattle.std.proofs.lemmas.List.Concat.{flat_map-cons}
use Rattle.rand_chacha.specs.ChaCha.{ChaCha}
use Rattle.sn_device.specs.Asking.{Reply, lost, said, unheard, unread}
use Rattle.sn_device.specs.Runs.{Act, AdoptsOrDrops, AdoptsOrKeeps, AnswersChange, AnswersNothing, AreRounds, AsksFor, AsksForNew, AsksHost, ChangesTo, CommitsStep, Drops, DropsOrKeeps, EndsBy, EndsExchange, EndsSync, Exchanges, Finds, FindsParams, Halt, Hears, IsRound, Point, Resolves, Round, Sends, Standing, SyncsUnder, Then, Turn, acts_of, asked, change_to, commits, goes_on, is_over, posting, refused}
use Rattle.sn_device.specs.States.{Bytes, HasSets, IsInSlot}
use Rattle.sn_device.specs.Steps.{Step, What, adopts, applies, asks, forgets, posts}
use Rattle.sn_device.specs.declared.error.ClientError.{ClientError}
use Rattle.sn_device.specs.declared.error.ClientError.TheVariants as refusal
use Rattle.sn_rows.specs.Table.{Rows, rows_after}
use Rattle.sn_rows.specs.declared.change.Change.{Change}
use Rattle.sn_rows.specs.declared.device_rows.OwnerRow.{OwnerRow}
use Rattle.sn_rows.specs.declared.key.Slot.TheVariants.{Asked, Present}
use Rattle.sn_sets.specs.declared.sets.Sets.{Sets}
use Rattle.sn_string.specs.declared.params.KeySet.{KeySet}
use Rattle.sn_string.specs.declared.params.Params.{Params}
use Rattle.sn_sync.specs.Fits.{AreBytes, FitsRequest}
use Rattle.sn_sync.specs.declared.answer.Answer.{Answer}
use Rattle.sn_sync.specs.declared.answer.Answer.TheVariants as answer
use Rattle.sn_sync.specs.declared.request.Request.{Request}
use Rattle.sn_sync.specs.declared.request.Request.TheVariants as request
use Rattle.sn_world.proofs.FittingItems.{change_fits, params_fit, sends_fit, sign_in_fits}
use Rattle.sn_world.proofs.FittingRows.{slot_fits}
use Rattle.sn_world.proofs.KeyBytes.{password_fits}
use Rattle.sn_world.specs.Fitting.{AreFitting, FitsPasswords, FitsUuids, FitsWhat}

-- ---- acts

pub none_fit : (acts : List Act) → acts ≡ [] → AreFitting acts
none_fit acts e = subst AreFitting (sym e) tt

pub both_fit : (front later : List Act) → AreFitting front → AreFitting later → AreFitting (front ++ later)
both_fit [] later one two = two
both_fit (commits what changes ∷ front) later (first, rest) two = (first, both_fit front later rest two)
both_fit (asked r reply ∷ front) later (first, rest) two = (first, both_fit front later rest two)

pub front_fits : (front later : List Act) → AreFitting (front ++ later) → AreFitting front
front_fits [] later all = tt
front_fits (commits what changes ∷ front) later (first, rest) = (first, front_fits front later rest)
front_fits (asked r reply ∷ front) later (first, rest) = (first, front_fits front later rest)

posting_fits : (numbers : List ℕ) (posted : List Change) → AreFitting (posting numbers posted)
posting_fits [] posted = tt
posting_fits (number ∷ numbers) posted = (tt, tt)

-- what holds of rows with such uuids, and behind each commit again
pub record IsGood (Good : Rows → Type 0) : Type 0 where
  pub step : (rows : Rows) (words left : ChaCha) (what : What) (changes : List Change) → FitsWhat what → Good rows → Step rows words what changes left
      → Good (rows_after rows changes)
  pub uuids : (rows : Rows) → Good rows → FitsUuids rows

module _ (Good : Rows → Type 0) (of : IsGood Good) where
  -- where the call goes on, it goes on from such rows
  abbrev pub GoesOnSo : Turn → Type 0
  GoesOnSo (goes_on q) = Good q.rows
  GoesOnSo (is_over halt) = Unit {0}

  abbrev pub HasSo : List Act → Turn → Type 0
  HasSo acts turn = AreFitting acts × GoesOnSo turn

  -- a piece of a call has it, wherever it begins
  abbrev pub Has : (Point → List Act → Turn → Type 0) → Type 0
  Has piece = (p : Point) (acts : List Act) (turn : Turn) → Good p.rows → piece p acts turn → HasSo acts turn

  over_has : (acts : List Act) (turn : Turn) (halt : Halt) → AreFitting acts → turn ≡ is_over halt → HasSo acts turn
  over_has acts turn halt fit e = (fit, subst GoesOnSo (sym e) tt)

  ends_has : (why : ClientError) (p : Point) (acts : List Act) (turn : Turn) → EndsBy why p acts turn → HasSo acts turn
  ends_has why p acts turn (none, e) = over_has acts turn (refused why) (none_fit acts none) e

  joined_has : (front later acts : List Act) (turn : Turn) → AreFitting front → HasSo later turn → acts ≡ front ++ later → HasSo acts turn
  joined_has front later acts turn one (two, on) e = (subst AreFitting (sym e) (both_fit front later one two), on)

  pub then_has : (first next : Point → List Act → Turn → Type 0) → Has first → Has next → Has (Then first next)
  then_has first next one two p acts turn good (inl (halt, over, e)) = over_has acts turn halt (one p acts (is_over halt) good over).0 e
  then_has first next one two p acts turn good (inr (front, q, later, goes, behind, e)) =
      let before = one p front (goes_on q) good goes in
      joined_has front later acts turn before.0 (two q later turn before.1 behind) e

  commit_has : (what : What) → FitsWhat what → Has (CommitsStep what)
  commit_has what fits p acts turn good (inl ends) = ends_has refusal.Memory p acts turn ends
  commit_has what fits p acts turn good (inr (changes, left, step, inl (batch, e, goes))) =
      (subst AreFitting (sym e) (fits, tt), subst GoesOnSo (sym goes) (of.step p.rows p.words left what changes fits good step))
  commit_has what fits p acts turn good (inr (changes, left, step, inr (halt, none, stops, e))) = over_has acts turn halt (none_fit acts none) e

  -- ---- requests

  -- so does each answer's piece
  abbrev pub HasEach : (Answer → Point → List Act → Turn → Type 0) → Type 0
  HasEach next = (given : Answer) → Has (next given)

  hears_has : (next : Answer → Point → List Act → Turn → Type 0) → HasEach next → (reply : Reply) → Has (Hears next reply)
  hears_has next so lost p acts turn good (inl ends) = ends_has refusal.LinkFault p acts turn ends
  hears_has next so lost p acts turn good (inr ends) = ends_has refusal.Memory p acts turn ends
  hears_has next so unheard p acts turn good ends = ends_has refusal.Memory p acts turn ends
  hears_has next so (unread at) p acts turn good (inl ends) = ends_has (refusal.BadAnswer at) p acts turn ends
  hears_has next so (unread at) p acts turn good (inr ends) = ends_has refusal.Memory p acts turn ends
  hears_has next so (said given) p acts turn good (inl ends) = ends_has refusal.Memory p acts turn ends
  hears_has next so (said given) p acts turn good (inr goes) = so given p acts turn good goes

  asks_has : (r : Request) (next : Answer → Point → List Act → Turn → Type 0) → FitsRequest r → HasEach next → Has (AsksHost r next)
  asks_has r next fits so p acts turn good (inl ends) = ends_has refusal.Memory p acts turn ends
  asks_has r next fits so p acts turn good (inr (inl (most, ends))) = ends_has refusal.RoundsUsed p acts turn ends
  asks_has r next fits so p acts turn good (inr (inr (less, (reply, later, e, hears)))) =
      let has : HasSo later turn = hears_has next so reply (record { made = suc p.made; rows = p.rows; words = p.words }) later turn good hears in
      (subst AreFitting (sym e) (fits, has.0), has.1)

  -- ---- the end as a call's

  pub answers_fit : (piece : Point → List Act → Turn → Type 0) → Has piece → (p : Point) (acts : List Act) (halt : Halt) → Good p.rows
      → AnswersNothing piece p acts halt → AreFitting acts
  answers_fit piece so p acts halt good (inl over) = (so p acts (is_over halt) good over).0
  answers_fit piece so p acts halt good (inr (q, goes, e)) = (so p acts (goes_on q) good goes).0

  -- ---- exchanges until nothing is left

  ready_good : (words : ChaCha) (rows ready : Rows) (numbers : List ℕ) (posted : List Change) (r : Request) → Good rows → Sends rows numbers posted r ready
      → Good ready
  ready_good words rows ready numbers posted r good sends =
      subst Good (sym sends.ready_is) (of.step rows words words (posts numbers) posted tt good (sends.posts_them, refl))

  asked_fits : (rows ready : Rows) (numbers : List ℕ) (posted : List Change) (r : Request) → Good rows → Sends rows numbers posted r ready → FitsRequest r
  asked_fits rows ready numbers posted r good sends = sends_fit rows numbers posted r ready (of.uuids rows good) sends

  round_fits : (at : Standing) (round : Round) (after : Standing) → Good at.rows → IsRound at round after → AreFitting (acts_of round)
  round_fits at round after good is =
      both_fit (posting round.numbers round.posted) (asked round.request (said round.given) ∷ commits (applies round.request round.given) round.applied ∷ [])
      (posting_fits round.numbers round.posted)
      (asked_fits at.rows is.ready round.numbers round.posted round.request good is.sends, (tt, tt))

  round_leaves : (at : Standing) (round : Round) (after : Standing) → Good at.rows → IsRound at round after → Good after.rows
  round_leaves at round after good is =
      let ready : Good is.ready = ready_good at.words at.rows is.ready round.numbers round.posted round.request good is.sends in
      subst (λ (z : Standing). Good z.rows) (sym is.after_is)
      (of.step is.ready at.words is.left (applies round.request round.given) round.applied tt ready is.step)

  rounds_have : (at : Standing) (rounds : List Round) (after : Standing) (acts : List Act) (turn : Turn) → Good at.rows → AreRounds at rounds after
      → (Good after.rows → HasSo acts turn) → HasSo (flat_map acts_of rounds ++ acts) turn
  rounds_have at [] after acts turn good e so = so (subst (λ (x : Standing). Good x.rows) (sym e) good)
  rounds_have at (round ∷ rounds) after acts turn good (between, is, later) so =
      joined_has (acts_of round) (flat_map acts_of rounds ++ acts) (flat_map acts_of (round ∷ rounds) ++ acts) turn (round_fits at round between good is)
      (rounds_have between rounds after acts turn (round_leaves at round between good is) later so)
      (ap (λ (xs : List Act). xs ++ acts) (flat_map-cons acts_of round rounds) ∙ append_assoc (acts_of round) (flat_map acts_of rounds) acts)

  exchange_fits : (words : ChaCha) (rows ready : Rows) (numbers : List ℕ) (posted : List Change) (r : Request) (acts : List Act) (halt : Halt) → Good rows
      → Sends rows numbers posted r ready → EndsExchange words numbers posted r ready acts halt → AreFitting acts
  exchange_fits words rows ready numbers posted r acts halt good sends (inl (some, e, stops)) = none_fit acts e
  exchange_fits words rows ready numbers posted r acts halt good sends (inr (batch, inl (e, ends))) =
      subst AreFitting (sym e) (posting_fits numbers posted)
  exchange_fits words rows ready numbers posted r acts halt good sends (inr (batch, inr (reply, e, ends))) =
      subst AreFitting (sym e)
      (both_fit (posting numbers posted) (asked r reply ∷ []) (posting_fits numbers posted) (asked_fits rows ready numbers posted r good sends, tt))

  end_has : (count : ℕ) (at : Standing) (acts : List Act) (turn : Turn) → Good at.rows → EndsSync count at acts turn → HasSo acts turn
  end_has count at acts turn good (inl (done, none, goes)) = (none_fit acts none, subst GoesOnSo (sym goes) good)
  end_has count at acts turn good (inr (halt, e, inl (all, due, refuses))) = over_has acts turn halt (none_fit acts refuses.0) e
  end_has count at acts turn good (inr (halt, e, inr (inl (few, ends)))) =
      over_has acts turn halt (exchange_fits at.words at.rows ends.ready ends.numbers ends.posted ends.request acts halt good ends.sends ends.ends_so) e
  end_has count at acts turn good (inr (halt, e, inr (inr wants))) = over_has acts turn halt (none_fit acts wants.0) e

  exchanges_have : Has Exchanges
  exchanges_have p acts turn good x =
      subst (λ (xs : List Act). HasSo xs turn) (sym x.acts_are)
      (rounds_have (record { rows = p.rows; words = p.words; last = None }) x.rounds x.at x.later turn good x.went
      (λ there. end_has _ x.at x.later turn there x.ends))

  -- a device that asks for no set
  pub alone_has : (owner : OwnerRow) (sets : Sets) → sets.asked ≡ None → Has (SyncsUnder owner sets)
  alone_has owner sets unasked p acts turn good (inl (none, exchanges)) = exchanges_have p acts turn good exchanges
  alone_has owner sets unasked p acts turn good (inr (set, some, syncs)) = absurd (cc)

  -- ---- a set that is asked for

  module _ (owner : OwnerRow) (present set : KeySet) (current : AreBytes 32 present.pw) (pw : AreBytes 32 set.pw) where
    adopted_has : (token : Bytes) → Has (CommitsStep (adopts set token))
    adopted_has token = commit_has (adopts set token) pw

    drops_has : (why : ClientError) → Has (Drops why)
    drops_has why =
        then_has (CommitsStep forgets) (EndsBy why) (commit_has forgets tt) (λ p acts turn good ends. ends_has why p acts turn ends)

    drops_or_keeps : (status : ℕ) (tag : Bytes) → Has (DropsOrKeeps status tag)
    drops_or_keeps status tag p acts turn good (inl (is, drops)) = drops_has (refusal.Refused status tag) p acts turn good drops
    drops_or_keeps status tag p acts turn good (inr (isnt, ends)) = ends_has (refusal.Refused status tag) p acts turn ends

    adopts_or_drops : HasEach (AdoptsOrDrops set)
    adopts_or_drops (answer.Account token identifier uuid) p acts turn good commits_so = adopted_has token p acts turn good commits_so
    adopts_or_drops (answer.Refused status tag more) p acts turn good drops = drops_has (refusal.Refused status tag) p acts turn good drops
    adopts_or_drops (answer.Params params) p acts turn good wrong = absurd wrong
    adopts_or_drops (answer.Sync conflicts cursor retrieved saved token) p acts turn good wrong = absurd wrong

    adopts_or_keeps : HasEach (AdoptsOrKeeps set)
    adopts_or_keeps (answer.Account token identifier uuid) p acts turn good commits_so = adopted_has token p acts turn good commits_so
    adopts_or_keeps (answer.Refused status tag more) p acts turn good goes = drops_or_keeps status tag p acts turn good goes
    adopts_or_keeps (answer.Params params) p acts turn good wrong = absurd wrong
    adopts_or_keeps (answer.Sync conflicts cursor retrieved saved token) p acts turn good wrong = absurd wrong

    finds_params : (params : Params) → Has (FindsParams owner present set params)
    finds_params params p acts turn good (inl (unmade, again)) =
        asks_has (change_to owner present set) (AdoptsOrDrops set) (change_fits owner present set current pw) adopts_or_drops p acts turn good again
    finds_params params p acts turn good (inr (other, inl (was_made, signs))) =
        asks_has (request.SignIn owner.identifier set.pw) (AdoptsOrKeeps set) (sign_in_fits owner set pw) adopts_or_keeps p acts turn good signs
    finds_params params p acts turn good (inr (other, inr (neither, drops))) = drops_has (refusal.Refused 401 (codes "bad-auth")) p acts turn good drops

    finds_has : HasEach (Finds owner present set)
    finds_has (answer.Params params) p acts turn good finds = finds_params params p acts turn good finds
    finds_has (answer.Refused status tag more) p acts turn good goes = drops_or_keeps status tag p acts turn good goes
    finds_has (answer.Account token identifier uuid) p acts turn good wrong = absurd wrong
    finds_has (answer.Sync conflicts cursor retrieved saved token) p acts turn good wrong = absurd wrong

    resolves_has : Has (Resolves owner present set)
    resolves_has = asks_has (request.Params owner.identifier) (Finds owner present set) (params_fit owner) finds_has

    answers_change : HasEach (AnswersChange owner present set)
    answers_change (answer.Account token identifier uuid) p acts turn good commits_so = adopted_has token p acts turn good commits_so
    answers_change (answer.Refused status tag more) p acts turn good (inl (is, resolves)) = resolves_has p acts turn good resolves
    answers_change (answer.Refused status tag more) p acts turn good (inr (isnt, drops)) = drops_has (refusal.Refused status tag) p acts turn good drops
    answers_change (answer.Params params) p acts turn good wrong = absurd wrong
    answers_change (answer.Sync conflicts cursor retrieved saved token) p acts turn good wrong = absurd wrong

    changed_has : Has (Then (CommitsStep (asks set)) (AsksHost (change_to owner present set) (AnswersChange owner present set)))
    changed_has =
        then_has (CommitsStep (asks set)) (AsksHost (change_to owner present set) (AnswersChange owner present set)) (commit_has (asks set) pw)
        (asks_has (change_to owner present set) (AnswersChange owner present set) (change_fits owner present set current pw) answers_change)

  -- with the passwords of the sets that are held
  module _ (passwords : (rows : Rows) → Good rows → FitsPasswords rows) where
    present_fits : (rows : Rows) (owner : OwnerRow) (sets : Sets) → Good rows → HasSets rows owner sets → AreBytes 32 sets.present.pw
    present_fits rows owner sets good holds = slot_fits rows owner.identifier Present sets.present (passwords rows good) holds.in_use

    wanted_fits : (rows : Rows) (owner : OwnerRow) (sets : Sets) (set : KeySet) → Good rows → HasSets rows owner sets → sets.asked ≡ Some set → AreBytes 32 set.pw
    wanted_fits rows owner sets set good holds some =
        slot_fits rows owner.identifier Asked set (passwords rows good) (subst (IsInSlot rows owner.identifier Asked) some holds.wanted)

    -- the sets are those of the rows from which the call begins
    pub syncs_have : (rows : Rows) (owner : OwnerRow) (sets : Sets) → Good rows → HasSets rows owner sets → Has (SyncsUnder owner sets)
    syncs_have rows owner sets first holds p acts turn good (inl (none, exchanges)) = exchanges_have p acts turn good exchanges
    syncs_have rows owner sets first holds p acts turn good (inr (set, some, syncs)) =
        then_has (Resolves owner sets.present set) Exchanges
        (resolves_has owner sets.present set (present_fits rows owner sets first holds) (wanted_fits rows owner sets set first holds some)) exchanges_have
        p acts turn good syncs

    new_has : (password : Bytes) (cost : ℕ) (owner : OwnerRow) (present : KeySet) → AreBytes 32 present.pw → Has (AsksForNew password cost owner present)
    new_has password cost owner present current p acts turn good (set, left, new, goes) =
        changed_has owner present set current (password_fits password set.params set new.keys)
        (record { made = p.made; rows = p.rows; words = left }) acts turn good goes

    asks_for_has : (password : Bytes) (cost : ℕ) → Has (AsksFor password cost)
    asks_for_has password cost p acts turn good (inl ends) = ends_has refusal.Memory p acts turn ends
    asks_for_has password cost p acts turn good (inr (owner, sets, holds, inl (why, refuses, ends))) = ends_has why p acts turn ends
    asks_for_has password cost p acts turn good (inr (owner, sets, holds, inr (may, inl (most, ends)))) = ends_has refusal.RoundsUsed p acts turn ends
    asks_for_has password cost p acts turn good (inr (owner, sets, holds, inr (may, inr (less, new)))) =
        new_has password cost owner sets.present (present_fits p.rows owner sets good holds) p acts turn good new

    pub changes_have : (password : Bytes) (cost : ℕ) (rows : Rows) (owner : OwnerRow) (sets : Sets) → Good rows → HasSets rows owner sets
        → Has (ChangesTo password cost owner sets)
    changes_have password cost rows owner sets first holds =
        then_has (SyncsUnder owner sets) (Then (AsksFor password cost) Exchanges) (syncs_have rows owner sets first holds)
        (then_has (AsksFor password cost) Exchanges (asks_for_has password cost) exchanges_have)
