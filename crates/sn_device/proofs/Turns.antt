-- What holds of a call's acts, piece by piece: of each commit that a piece makes, and so of all its acts; and a piece goes on from the rows that they
-- leave.
use Rattle.std.proofs.Common.{◌≡◌, ℕ, suc, List, [], ◌∷◌, ◌++◌, None, refl, sym, ap, ◌∙◌, subst, inl, inr, append_assoc}
use Rattle.std.specs.Prelude.{codes}
use Rattle.std.specs.List.{AllZip, flat_map}
use Rattle.std.proofs.lemmas.List.{append-nil}
use Rattle.std.proofs.lemmas.List.Concat.{flat_map-cons}
use Rattle.rand_chacha.specs.ChaCha.{ChaCha}
use Rattle.sn_rows.specs.Table.{Rows, rows_after}
use Rattle.sn_rows.specs.declared.change.Change.{Change}
use Rattle.sn_rows.specs.declared.device_rows.OwnerRow.{OwnerRow}
use Rattle.sn_sets.specs.declared.sets.Sets.{Sets}
use Rattle.sn_string.specs.declared.params.KeySet.{KeySet}
use Rattle.sn_string.specs.declared.params.Params.{Params}
use Rattle.sn_sync.specs.declared.answer.Answer.{Answer}
use Rattle.sn_sync.specs.declared.answer.Answer.TheVariants as answer
use Rattle.sn_sync.specs.declared.request.Request.{Request}
use Rattle.sn_sync.specs.declared.request.Request.TheVariants as request
use Rattle.sn_device.specs.Asking.{Reply, lost, said, unheard, unread}
use Rattle.sn_device.specs.Runs.{Act, AdoptsOrDrops, AdoptsOrKeeps, AnswersChange, AnswersNothing, AreRounds, AsksFor, AsksForNew, AsksHost, ChangesTo, CommitsStep, Drops, DropsOrKeeps, EndsBy, EndsExchange, EndsSync, Exchanges, Finds, FindsParams, Halt, Hears, IsRound, Point, Resolves, Round, Sends, Standing, SyncsUnder, Then, Turn, acts_of, asked, change_to, commits, goes_on, is_over, posting, refused, rows_done}
use Rattle.sn_device.specs.Sending.{Posts}
use Rattle.sn_device.specs.States.{Bytes}
use Rattle.sn_device.specs.Steps.{Step, What, adopts, applies, asks, forgets, posts}
use Rattle.sn_device.specs.declared.error.ClientError.{ClientError}
use Rattle.sn_device.specs.declared.error.ClientError.TheVariants as refusal

pub done_append : (rows : Rows) (front later : List Act) → rows_done rows (front ++ later) ≡ rows_done (rows_done rows front) later
done_append rows [] later = refl
done_append rows (commits what changes ∷ front) later = done_append (rows_after rows changes) front later
done_append rows (asked r reply ∷ front) later = done_append rows front later

-- where the call goes on, it goes on from the rows that the acts leave
abbrev pub LeavesOn : Rows → List Act → Turn → Type 0
LeavesOn rows acts (goes_on q) = q.rows ≡ rows_done rows acts
LeavesOn rows acts (is_over halt) = Unit {0}

-- the acts have a property, from these rows, and leave them so
abbrev pub HasSo : (Rows → List Act → Type 0) → Rows → List Act → Turn → Type 0
HasSo P rows acts turn = P rows acts × LeavesOn rows acts turn

-- a property of acts: each commit of these has it, and acts have it of which each part has it
pub record IsOfActs (P : Rows → List Act → Type 0) (Q : What → Type 0) : Type 0 where
  pub none : (rows : Rows) → P rows []
  pub commit : (rows : Rows) (words left : ChaCha) (what : What) (changes : List Change) → Q what → Step rows words what changes left
      → P rows (commits what changes ∷ [])
  pub ask : (rows : Rows) (r : Request) (reply : Reply) (acts : List Act) → P rows acts → P rows (asked r reply ∷ acts)
  pub append : (rows : Rows) (front later : List Act) → P rows front → P (rows_done rows front) later → P rows (front ++ later)

-- the commits of exchanges are among these
pub record AllowsExchanges (Q : What → Type 0) : Type 0 where
  pub to_post : (numbers : List ℕ) → Q (posts numbers)
  pub to_apply : (r : Request) (given : Answer) → Q (applies r given)

-- so are those that settle a set that is asked for
pub record AllowsResolving (Q : What → Type 0) : Type 0 where
  pub exchanges : AllowsExchanges Q
  pub to_adopt : (set : KeySet) (token : Bytes) → Q (adopts set token)
  pub to_forget : Q forgets

-- a request leaves the rows
asked_leaves : (rows : Rows) (r : Request) (reply : Reply) (acts : List Act) (turn : Turn) → LeavesOn rows acts turn → LeavesOn rows (asked r reply ∷ acts) turn
asked_leaves rows r reply acts (goes_on q) on = on
asked_leaves rows r reply acts (is_over halt) on = tt

leaves_append : (rows : Rows) (front later : List Act) (turn : Turn) → LeavesOn (rows_done rows front) later turn → LeavesOn rows (front ++ later) turn
leaves_append rows front later (goes_on q) on = on ∙ sym (done_append rows front later)
leaves_append rows front later (is_over halt) on = tt

-- the posting leaves the rows behind its one commit, or none where nothing is posted
posting_leaves : (rows : Rows) (numbers : List ℕ) (posted : List Change) (acts : List Act) → AllZip (Posts rows) numbers posted
    → rows_done rows (posting numbers posted ++ acts) ≡ rows_done (rows_after rows posted) acts
posting_leaves rows [] [] acts all = refl
posting_leaves rows [] (c ∷ posted) acts all = absurd all
posting_leaves rows (n ∷ numbers) [] acts all = absurd all
posting_leaves rows (n ∷ numbers) (c ∷ posted) acts all = refl

-- what a round does behind its posting
abbrev behind_posting : Round → List Act
behind_posting round = asked round.request (said round.given) ∷ commits (applies round.request round.given) round.applied ∷ []

-- a round leaves the rows on which it ends
pub round_leaves : (at : Standing) (round : Round) (after : Standing) → IsRound at round after → after.rows ≡ rows_done at.rows (acts_of round)
round_leaves at round after is =
    ap (λ (z : Standing). z.rows) is.after_is ∙ ap (λ (x : Rows). rows_after x round.applied) is.sends.ready_is
    ∙ sym (posting_leaves at.rows round.numbers round.posted (behind_posting round) is.sends.posts_them)

module _ (P : Rows → List Act → Type 0) (Q : What → Type 0) (of : IsOfActs P Q) where
  pub none_has : (rows : Rows) (acts : List Act) → acts ≡ [] → P rows acts
  none_has rows acts e = subst (P rows) (sym e) (of.none rows)

  -- the call ends
  over_has : (rows : Rows) (acts : List Act) (turn : Turn) (halt : Halt) → P rows acts → turn ≡ is_over halt → HasSo P rows acts turn
  over_has rows acts turn halt has e = (has, subst (λ (t : Turn). LeavesOn rows acts t) (sym e) tt)

  pub ends_has : (why : ClientError) (p : Point) (acts : List Act) (turn : Turn) → EndsBy why p acts turn → HasSo P p.rows acts turn
  ends_has why p acts turn (none, e) = over_has p.rows acts turn (refused why) (none_has p.rows acts none) e

  joined_has : (rows : Rows) (front later acts : List Act) (q : Point) (turn : Turn) → HasSo P rows front (goes_on q) → HasSo P q.rows later turn
      → acts ≡ front ++ later → HasSo P rows acts turn
  joined_has rows front later acts q turn (first, there) (second, on) e =
      let behind : P (rows_done rows front) later = subst (λ (r : Rows). P r later) there second in
      let leaves : LeavesOn (rows_done rows front) later turn = subst (λ (r : Rows). LeavesOn r later turn) there on in (
        subst (λ (xs : List Act). P rows xs) (sym e) (of.append rows front later first behind),
        subst (λ (xs : List Act). LeavesOn rows xs turn) (sym e) (leaves_append rows front later turn leaves),
      )

  -- ---- pieces

  -- a piece of a call has it, wherever it begins
  abbrev pub Has : (Point → List Act → Turn → Type 0) → Type 0
  Has piece = (p : Point) (acts : List Act) (turn : Turn) → piece p acts turn → HasSo P p.rows acts turn

  pub then_has : (first next : Point → List Act → Turn → Type 0) → Has first → Has next → Has (Then first next)
  then_has first next one two p acts turn (inl (halt, over, e)) = over_has p.rows acts turn halt (one p acts (is_over halt) over).0 e
  then_has first next one two p acts turn (inr (front, q, later, goes, behind, e)) =
      joined_has p.rows front later acts q turn (one p front (goes_on q) goes) (two q later turn behind) e

  pub commit_has : (what : What) → Q what → Has (CommitsStep what)
  commit_has what allowed p acts turn (inl ends) = ends_has refusal.Memory p acts turn ends
  commit_has what allowed p acts turn (inr (changes, left, step, inl (batch, e, goes))) = (
    subst (λ (xs : List Act). P p.rows xs) (sym e) (of.commit p.rows p.words left what changes allowed step),
    subst (λ (t : Turn). LeavesOn p.rows acts t) (sym goes) (ap (λ (xs : List Act). rows_done p.rows xs) (sym e)),
  )
  commit_has what allowed p acts turn (inr (changes, left, step, inr (halt, none, stops, e))) =
      over_has p.rows acts turn halt (none_has p.rows acts none) e

  -- ---- requests

  -- so does each answer's piece
  abbrev pub HasEach : (Answer → Point → List Act → Turn → Type 0) → Type 0
  HasEach next = (given : Answer) → Has (next given)

  pub hears_has : (next : Answer → Point → List Act → Turn → Type 0) → HasEach next → (reply : Reply) → Has (Hears next reply)
  hears_has next so lost p acts turn (inl ends) = ends_has refusal.LinkFault p acts turn ends
  hears_has next so lost p acts turn (inr ends) = ends_has refusal.Memory p acts turn ends
  hears_has next so unheard p acts turn ends = ends_has refusal.Memory p acts turn ends
  hears_has next so (unread at) p acts turn (inl ends) = ends_has (refusal.BadAnswer at) p acts turn ends
  hears_has next so (unread at) p acts turn (inr ends) = ends_has refusal.Memory p acts turn ends
  hears_has next so (said given) p acts turn (inl ends) = ends_has refusal.Memory p acts turn ends
  hears_has next so (said given) p acts turn (inr goes) = so given p acts turn goes

  pub asks_has : (r : Request) (next : Answer → Point → List Act → Turn → Type 0) → HasEach next → Has (AsksHost r next)
  asks_has r next so p acts turn (inl ends) = ends_has refusal.Memory p acts turn ends
  asks_has r next so p acts turn (inr (inl (most, ends))) = ends_has refusal.RoundsUsed p acts turn ends
  asks_has r next so p acts turn (inr (inr (less, (reply, later, e, hears)))) =
      let has : HasSo P p.rows later turn =
      hears_has next so reply (record { made = suc p.made; rows = p.rows; words = p.words }) later turn hears in (
        subst (λ (xs : List Act). P p.rows xs) (sym e) (of.ask p.rows r reply later has.0),
        subst (λ (xs : List Act). LeavesOn p.rows xs turn) (sym e) (asked_leaves p.rows r reply later turn has.1),
      )

  -- ---- the end as a call's

  pub answers_has : (piece : Point → List Act → Turn → Type 0) → Has piece → (p : Point) (acts : List Act) (halt : Halt) → AnswersNothing piece p acts halt
      → P p.rows acts
  answers_has piece so p acts halt (inl over) = (so p acts (is_over halt) over).0
  answers_has piece so p acts halt (inr (q, goes, e)) = (so p acts (goes_on q) goes).0

  -- ---- exchanges until nothing is left

  module _ (allows : AllowsExchanges Q) where
    posting_has : (words : ChaCha) (rows : Rows) (numbers : List ℕ) (posted : List Change) (acts : List Act) → AllZip (Posts rows) numbers posted
        → P (rows_after rows posted) acts → P rows (posting numbers posted ++ acts)
    posting_has words rows [] [] acts all has = has
    posting_has words rows [] (c ∷ posted) acts all has = absurd all
    posting_has words rows (n ∷ numbers) [] acts all has = absurd all
    posting_has words rows (n ∷ numbers) (c ∷ posted) acts all has =
        of.append rows (commits (posts (n ∷ numbers)) (c ∷ posted) ∷ []) acts
        (of.commit rows words words (posts (n ∷ numbers)) (c ∷ posted) (allows.to_post (n ∷ numbers)) (all, refl)) has

    -- behind its posting a request goes out
    sent_has : (words : ChaCha) (rows ready : Rows) (numbers : List ℕ) (posted : List Change) (r : Request) (acts : List Act)
        → Sends rows numbers posted r ready → P ready acts → P rows (posting numbers posted ++ acts)
    sent_has words rows ready numbers posted r acts sends has =
        posting_has words rows numbers posted acts sends.posts_them (subst (λ (x : Rows). P x acts) sends.ready_is has)

    round_has : (at : Standing) (round : Round) (after : Standing) → IsRound at round after → P at.rows (acts_of round)
    round_has at round after is =
        sent_has at.words at.rows is.ready round.numbers round.posted round.request (behind_posting round) is.sends
        (of.ask is.ready round.request (said round.given) (commits (applies round.request round.given) round.applied ∷ [])
        (of.commit is.ready at.words is.left (applies round.request round.given) round.applied (allows.to_apply round.request round.given) is.step))

    rounds_has : (at : Standing) (rounds : List Round) (after : Standing) (acts : List Act) (turn : Turn) → AreRounds at rounds after
        → HasSo P after.rows acts turn → HasSo P at.rows (flat_map acts_of rounds ++ acts) turn
    rounds_has at [] after acts turn e has = subst (λ (x : Standing). HasSo P x.rows acts turn) e has
    rounds_has at (round ∷ rounds) after acts turn (between, is, later) has =
        let rest : HasSo P between.rows (flat_map acts_of rounds ++ acts) turn = rounds_has between rounds after acts turn later has in
        let first : HasSo P at.rows (acts_of round) (goes_on (record { made = 0; rows = between.rows; words = between.words })) =
        (round_has at round between is, round_leaves at round between is) in
        joined_has at.rows (acts_of round) (flat_map acts_of rounds ++ acts) (flat_map acts_of (round ∷ rounds) ++ acts)
        (record { made = 0; rows = between.rows; words = between.words }) turn first rest
        (ap (λ (xs : List Act). xs ++ acts) (flat_map-cons acts_of round rounds) ∙ append_assoc (acts_of round) (flat_map acts_of rounds) acts)

    exchange_has : (words : ChaCha) (rows : Rows) (numbers : List ℕ) (posted : List Change) (r : Request) (ready : Rows) (acts : List Act) (halt : Halt)
        → Sends rows numbers posted r ready → EndsExchange words numbers posted r ready acts halt → P rows acts
    exchange_has words rows numbers posted r ready acts halt sends (inl (some, e, stops)) = none_has rows acts e
    exchange_has words rows numbers posted r ready acts halt sends (inr (batch, inl (e, ends))) =
        subst (λ (xs : List Act). P rows xs) (append-nil (posting numbers posted) ∙ sym e)
        (sent_has words rows ready numbers posted r [] sends (of.none ready))
    exchange_has words rows numbers posted r ready acts halt sends (inr (batch, inr (reply, e, ends))) =
        subst (λ (xs : List Act). P rows xs) (sym e)
        (sent_has words rows ready numbers posted r (asked r reply ∷ []) sends (of.ask ready r reply [] (of.none ready)))

    end_has : (count : ℕ) (at : Standing) (acts : List Act) (turn : Turn) → EndsSync count at acts turn → HasSo P at.rows acts turn
    end_has count at acts turn (inl (done, none, goes)) = (
      none_has at.rows acts none,
      subst (λ (t : Turn). LeavesOn at.rows acts t) (sym goes) (ap (λ (xs : List Act). rows_done at.rows xs) (sym none)),
    )
    end_has count at acts turn (inr (halt, e, inl (all, due, refuses))) = over_has at.rows acts turn halt (none_has at.rows acts refuses.0) e
    end_has count at acts turn (inr (halt, e, inr (inl (few, ends)))) =
        over_has at.rows acts turn halt
        (exchange_has at.words at.rows ends.numbers ends.posted ends.request ends.ready acts halt ends.sends ends.ends_so) e
    end_has count at acts turn (inr (halt, e, inr (inr wants))) = over_has at.rows acts turn halt (none_has at.rows acts wants.0) e

    pub exchanges_have : Has Exchanges
    exchanges_have p acts turn x =
        subst (λ (xs : List Act). HasSo P p.rows xs turn) (sym x.acts_are)
        (rounds_has (record { rows = p.rows; words = p.words; last = None }) x.rounds x.at x.later turn x.went
        (end_has _ x.at x.later turn x.ends))

  -- ---- a set that is asked for

  module _ (allows : AllowsResolving Q) where
    adopted_has : (set : KeySet) (token : Bytes) → Has (CommitsStep (adopts set token))
    adopted_has set token = commit_has (adopts set token) (allows.to_adopt set token)

    pub drops_has : (why : ClientError) → Has (Drops why)
    drops_has why = then_has (CommitsStep forgets) (EndsBy why) (commit_has forgets allows.to_forget) (ends_has why)

    drops_or_keeps : (status : ℕ) (tag : Bytes) → Has (DropsOrKeeps status tag)
    drops_or_keeps status tag p acts turn (inl (is, drops)) = drops_has (refusal.Refused status tag) p acts turn drops
    drops_or_keeps status tag p acts turn (inr (isnt, ends)) = ends_has (refusal.Refused status tag) p acts turn ends

    adopts_or_drops : (set : KeySet) → HasEach (AdoptsOrDrops set)
    adopts_or_drops set (answer.Account token identifier uuid) p acts turn commits_so = adopted_has set token p acts turn commits_so
    adopts_or_drops set (answer.Refused status tag more) p acts turn drops = drops_has (refusal.Refused status tag) p acts turn drops
    adopts_or_drops set (answer.Params params) p acts turn wrong = absurd wrong
    adopts_or_drops set (answer.Sync conflicts cursor retrieved saved token) p acts turn wrong = absurd wrong

    adopts_or_keeps : (set : KeySet) → HasEach (AdoptsOrKeeps set)
    adopts_or_keeps set (answer.Account token identifier uuid) p acts turn commits_so = adopted_has set token p acts turn commits_so
    adopts_or_keeps set (answer.Refused status tag more) p acts turn goes = drops_or_keeps status tag p acts turn goes
    adopts_or_keeps set (answer.Params params) p acts turn wrong = absurd wrong
    adopts_or_keeps set (answer.Sync conflicts cursor retrieved saved token) p acts turn wrong = absurd wrong

    finds_params : (owner : OwnerRow) (present set : KeySet) (params : Params) → Has (FindsParams owner present set params)
    finds_params owner present set params p acts turn (inl (unmade, again)) =
        asks_has (change_to owner present set) (AdoptsOrDrops set) (adopts_or_drops set) p acts turn again
    finds_params owner present set params p acts turn (inr (other, inl (was_made, signs))) =
        asks_has (request.SignIn owner.identifier set.pw) (AdoptsOrKeeps set) (adopts_or_keeps set) p acts turn signs
    finds_params owner present set params p acts turn (inr (other, inr (neither, drops))) =
        drops_has (refusal.Refused 401 (codes "bad-auth")) p acts turn drops

    finds_has : (owner : OwnerRow) (present set : KeySet) → HasEach (Finds owner present set)
    finds_has owner present set (answer.Params params) p acts turn finds = finds_params owner present set params p acts turn finds
    finds_has owner present set (answer.Refused status tag more) p acts turn goes = drops_or_keeps status tag p acts turn goes
    finds_has owner present set (answer.Account token identifier uuid) p acts turn wrong = absurd wrong
    finds_has owner present set (answer.Sync conflicts cursor retrieved saved token) p acts turn wrong = absurd wrong

    pub resolves_has : (owner : OwnerRow) (present set : KeySet) → Has (Resolves owner present set)
    resolves_has owner present set = asks_has (request.Params owner.identifier) (Finds owner present set) (finds_has owner present set)

    pub syncs_has : (owner : OwnerRow) (sets : Sets) → Has (SyncsUnder owner sets)
    syncs_has owner sets p acts turn (inl (none, exchanges)) = exchanges_have allows.exchanges p acts turn exchanges
    syncs_has owner sets p acts turn (inr (set, some, syncs)) =
        then_has (Resolves owner sets.present set) Exchanges (resolves_has owner sets.present set) (exchanges_have allows.exchanges) p acts turn syncs

    -- ---- a change of password

    module _ (to_ask : (set : KeySet) → Q (asks set)) where
      answers_change : (owner : OwnerRow) (present set : KeySet) → HasEach (AnswersChange owner present set)
      answers_change owner present set (answer.Account token identifier uuid) p acts turn commits_so = adopted_has set token p acts turn commits_so
      answers_change owner present set (answer.Refused status tag more) p acts turn (inl (is, resolves)) =
          resolves_has owner present set p acts turn resolves
      answers_change owner present set (answer.Refused status tag more) p acts turn (inr (isnt, drops)) =
          drops_has (refusal.Refused status tag) p acts turn drops
      answers_change owner present set (answer.Params params) p acts turn wrong = absurd wrong
      answers_change owner present set (answer.Sync conflicts cursor retrieved saved token) p acts turn wrong = absurd wrong

      new_has : (password : Bytes) (cost : ℕ) (owner : OwnerRow) (present : KeySet) → Has (AsksForNew password cost owner present)
      new_has password cost owner present p acts turn (set, left, new, goes) =
          then_has (CommitsStep (asks set)) (AsksHost (change_to owner present set) (AnswersChange owner present set)) (commit_has (asks set) (to_ask set))
          (asks_has (change_to owner present set) (AnswersChange owner present set) (answers_change owner present set))
          (record { made = p.made; rows = p.rows; words = left }) acts turn goes

      pub asks_for_has : (password : Bytes) (cost : ℕ) → Has (AsksFor password cost)
      asks_for_has password cost p acts turn (inl ends) = ends_has refusal.Memory p acts turn ends
      asks_for_has password cost p acts turn (inr (owner, sets, holds, inl (why, refuses, ends))) = ends_has why p acts turn ends
      asks_for_has password cost p acts turn (inr (owner, sets, holds, inr (may, inl (most, ends)))) = ends_has refusal.RoundsUsed p acts turn ends
      asks_for_has password cost p acts turn (inr (owner, sets, holds, inr (may, inr (less, new)))) =
          new_has password cost owner sets.present p acts turn new

      pub changes_has : (password : Bytes) (cost : ℕ) (owner : OwnerRow) (sets : Sets) → Has (ChangesTo password cost owner sets)
      changes_has password cost owner sets =
          then_has (SyncsUnder owner sets) (Then (AsksFor password cost) Exchanges) (syncs_has owner sets)
          (then_has (AsksFor password cost) Exchanges (asks_for_has password cost) (exchanges_have allows.exchanges))
