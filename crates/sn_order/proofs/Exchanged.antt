-- Exchanges: drafts that are posted, a sync, and the answer that is applied, time and again.
use Rattle.std.proofs.Common.{◌≡◌, ◌++◌, ℕ, Bool, true, false, List, [], ◌∷◌, Option, Some, None, refl, sym, ap, ◌∙◌, subst, inl, inr, append_assoc}
use Rattle.std.specs.List.{flat_map}
use Rattle.rand_chacha.specs.ChaCha.{ChaCha}
use Rattle.sn_device.specs.Asking.{Reply, said}
use Rattle.sn_device.specs.Runs.{Act, AreRounds, EndsExchange, EndsSync, Exchanges, Halt, IsDone, IsRound, Point, Round, Standing, Turn, acts_of, asked, commits, goes_on, is_over, posting}
use Rattle.sn_device.specs.Sending.{IsSyncOf, Numbered}
use Rattle.sn_device.specs.Steps.{applies}
use Rattle.sn_rows.specs.Table.{Rows}
use Rattle.sn_rows.specs.declared.change.Change.{Change}
use Rattle.sn_rows.specs.declared.device_rows.OwnerRow.{OwnerRow}
use Rattle.sn_sync.specs.declared.request.Request.{Request}
use Rattle.sn_order.specs.Order.{AreInOrder, IsBefore, comes_first, is_sync, next_request}
use Rattle.sn_order.specs.declared.kind.Kind.TheVariants as kind
use Rattle.sn_order.proofs.Pieces.{AreAny, AreSync, Follows, IsFollowed}
use Rattle.sn_order.proofs.Plain.{MaySync}

-- ---- one exchange

sync_of : (owner : OwnerRow) (chosen : List Numbered) (r : Request) → IsSyncOf owner chosen r → is_sync r ≡ true
sync_of owner chosen r x = ap is_sync x.request_is

-- directly behind a sync its answer is applied before any request
applied_first : (next : Option Request) → IsBefore true kind.Counts next
applied_first None = tt
applied_first (Some r) = refl

-- with what is posted before the request
posts_order : (numbers : List ℕ) (posted : List Change) (r : Request) (reply : Reply) (acts : List Act) → is_sync r ≡ true
    → AreInOrder false (asked r reply ∷ acts) → AreInOrder false (posting numbers posted ++ asked r reply ∷ acts)
posts_order [] posted r reply acts syncs order = order
posts_order (n ∷ numbers) posted r reply acts syncs order = (ap (λ (b : Bool). comes_first false kind.Drafts b) syncs, order)

round_order : (round : Round) (rest : List Act) → is_sync round.request ≡ true → AreInOrder false rest → AreInOrder false (acts_of round ++ rest)
round_order round rest syncs order =
    let behind : AreInOrder true (commits (applies round.request round.given) round.applied ∷ rest) = (applied_first (next_request rest), order) in
    subst (AreInOrder false)
    (sym (append_assoc (posting round.numbers round.posted)
    (asked round.request (said round.given) ∷ commits (applies round.request round.given) round.applied ∷ []) rest))
    (posts_order round.numbers round.posted round.request (said round.given) (commits (applies round.request round.given) round.applied ∷ rest) syncs
    (refl, subst (λ (heard : Bool). AreInOrder heard (commits (applies round.request round.given) round.applied ∷ rest)) (sym syncs) behind))

round_sync : (at : Standing) (round : Round) (after : Standing) → IsRound at round after → is_sync round.request ≡ true
round_sync at round after x = sync_of x.sends.owner x.sends.chosen round.request x.sends.request_is

rounds_order : (at : Standing) (rounds : List Round) (after : Standing) (rest : List Act) → AreRounds at rounds after → AreInOrder false rest
    → AreInOrder false (flat_map acts_of rounds ++ rest)
rounds_order at [] after rest went order = order
rounds_order at (round ∷ rounds) after rest (between, one, others) order =
    subst (AreInOrder false) (sym (append_assoc (acts_of round) (flat_map acts_of rounds) rest))
    (round_order round (flat_map acts_of rounds ++ rest) (round_sync at round between one) (rounds_order between rounds after rest others order))

-- ---- how they end

posting_alone : (numbers : List ℕ) (posted : List Change) → AreInOrder false (posting numbers posted)
posting_alone [] posted = tt
posting_alone (n ∷ numbers) posted = (tt, tt)

none_order : (acts : List Act) → acts ≡ [] → AreInOrder false acts
none_order acts none = subst (AreInOrder false) (sym none) tt

-- a request with nothing behind it
asked_alone : (heard : Bool) → AreInOrder heard []
asked_alone true = tt
asked_alone false = tt

exchange_order : (words : ChaCha) (numbers : List ℕ) (posted : List Change) (r : Request) (ready : Rows) (acts : List Act) (halt : Halt) → is_sync r ≡ true
    → EndsExchange words numbers posted r ready acts halt → AreInOrder false acts
exchange_order words numbers posted r ready acts halt syncs (inl (some, none, stops)) = none_order acts none
exchange_order words numbers posted r ready acts halt syncs (inr (batch, inl (is, wants))) = subst (AreInOrder false) (sym is) (posting_alone numbers posted)
exchange_order words numbers posted r ready acts halt syncs (inr (batch, inr (reply, is, ends))) =
    subst (AreInOrder false) (sym is) (posts_order numbers posted r reply [] syncs (tt, asked_alone (is_sync r)))

ends_followed : (count : ℕ) (at : Standing) (acts : List Act) (turn : Turn) → EndsSync count at acts turn → IsFollowed AreAny acts turn
ends_followed count at acts turn (inl (done, none, is)) =
    subst (IsFollowed AreAny acts) (sym is) (λ rest any order. subst (λ (xs : List Act). AreInOrder false (xs ++ rest)) (sym none) order)
ends_followed count at acts turn (inr (halt, is, inl (most, due, refuses))) = subst (IsFollowed AreAny acts) (sym is) (none_order acts refuses.0)
ends_followed count at acts turn (inr (halt, is, inr (inl (few, ends)))) =
    subst (IsFollowed AreAny acts) (sym is)
    (exchange_order at.words ends.numbers ends.posted ends.request ends.ready acts halt
    (sync_of ends.sends.owner ends.sends.chosen ends.request ends.sends.request_is) ends.ends_so)
ends_followed count at acts turn (inr (halt, is, inr (inr wants))) = subst (IsFollowed AreAny acts) (sym is) (none_order acts wants.0)

-- ---- all of them

rounds_followed : (at : Standing) (rounds : List Round) (after : Standing) (later : List Act) (turn : Turn) → AreRounds at rounds after
    → IsFollowed AreAny later turn → IsFollowed AreAny (flat_map acts_of rounds ++ later) turn
rounds_followed at rounds after later (is_over halt) went ends = rounds_order at rounds after later went ends
rounds_followed at rounds after later (goes_on q) went ends = λ rest any order.
    subst (AreInOrder false) (sym (append_assoc (flat_map acts_of rounds) later rest)) (rounds_order at rounds after (later ++ rest) went (ends rest tt order))

-- before the first of them
abbrev first_standing : Point → Standing
first_standing p = record { rows = p.rows; words = p.words; last = None }

pub exchanges_followed : (p : Point) (acts : List Act) (turn : Turn) → Exchanges p acts turn → IsFollowed AreAny acts turn
exchanges_followed p acts turn x =
    subst (λ (xs : List Act). IsFollowed AreAny xs turn) (sym x.acts_are)
    (rounds_followed (first_standing p) x.rounds x.at x.later turn x.went (ends_followed _ x.at x.later turn x.ends))

-- ---- their first request

-- what is asked first is asked first before anything more
first_stays : (acts rest : List Act) (r : Request) → next_request acts ≡ Some r → next_request (acts ++ rest) ≡ Some r
first_stays [] rest r first = absurd (let impossible : ⊥ = cc in impossible)
first_stays (commits what changes ∷ acts) rest r first = first_stays acts rest r first
first_stays (asked other reply ∷ acts) rest r first = first

posts_first : (numbers : List ℕ) (posted : List Change) (r : Request) (reply : Reply) (acts : List Act)
    → next_request (posting numbers posted ++ asked r reply ∷ acts) ≡ Some r
posts_first [] posted r reply acts = refl
posts_first (n ∷ numbers) posted r reply acts = refl

sync_first : (acts : List Act) (r : Request) → next_request acts ≡ Some r → is_sync r ≡ true → AreSync acts
sync_first acts r first syncs = subst MaySync (sym first) syncs

-- where a round was made it is that round's
round_first : (round : Round) (front later : List Act) → next_request ((acts_of round ++ front) ++ later) ≡ Some round.request
round_first round front later =
    first_stays (acts_of round ++ front) later round.request
    (first_stays (acts_of round) front round.request
    (posts_first round.numbers round.posted round.request (said round.given) (commits (applies round.request round.given) round.applied ∷ [])))

sync_follows : (acts : List Act) (r : Request) (turn : Turn) → next_request acts ≡ Some r → is_sync r ≡ true → Follows AreSync acts turn
sync_follows acts r (is_over halt) first syncs = sync_first acts r first syncs
sync_follows acts r (goes_on q) first syncs = λ rest. sync_first (acts ++ rest) r (first_stays acts rest r first) syncs

none_sync : (acts : List Act) → acts ≡ [] → AreSync acts
none_sync acts none = subst AreSync (sym none) tt

posting_sync : (numbers : List ℕ) (posted : List Change) → AreSync (posting numbers posted)
posting_sync [] posted = tt
posting_sync (n ∷ numbers) posted = tt

exchange_sync : (words : ChaCha) (numbers : List ℕ) (posted : List Change) (r : Request) (ready : Rows) (acts : List Act) (halt : Halt) → is_sync r ≡ true
    → EndsExchange words numbers posted r ready acts halt → AreSync acts
exchange_sync words numbers posted r ready acts halt syncs (inl (some, none, stops)) = none_sync acts none
exchange_sync words numbers posted r ready acts halt syncs (inr (batch, inl (is, wants))) = subst AreSync (sym is) (posting_sync numbers posted)
exchange_sync words numbers posted r ready acts halt syncs (inr (batch, inr (reply, is, ends))) =
    sync_first acts r (ap next_request is ∙ posts_first numbers posted r reply []) syncs

-- where none was made the call ends, since an exchange is due
ends_first : (p : Point) (count : ℕ) (at : Standing) (acts : List Act) (turn : Turn) → at ≡ first_standing p → EndsSync count at acts turn
    → Follows AreSync acts turn
ends_first p count at acts turn stands (inl (done, none, is)) = absurd (subst (λ (s : Standing). IsDone s.rows s.last) stands done)
ends_first p count at acts turn stands (inr (halt, is, inl (most, due, refuses))) = subst (Follows AreSync acts) (sym is) (none_sync acts refuses.0)
ends_first p count at acts turn stands (inr (halt, is, inr (inl (few, ends)))) =
    subst (Follows AreSync acts) (sym is)
    (exchange_sync at.words ends.numbers ends.posted ends.request ends.ready acts halt
    (sync_of ends.sends.owner ends.sends.chosen ends.request ends.sends.request_is) ends.ends_so)
ends_first p count at acts turn stands (inr (halt, is, inr (inr wants))) = subst (Follows AreSync acts) (sym is) (none_sync acts wants.0)

rounds_first : (p : Point) (count : ℕ) (rounds : List Round) (at : Standing) (later : List Act) (turn : Turn) → AreRounds (first_standing p) rounds at
    → EndsSync count at later turn → Follows AreSync (flat_map acts_of rounds ++ later) turn
rounds_first p count [] at later turn went ends = ends_first p count at later turn went ends
rounds_first p count (round ∷ rounds) at later turn (between, one, others) ends =
    sync_follows ((acts_of round ++ flat_map acts_of rounds) ++ later) round.request turn (round_first round (flat_map acts_of rounds) later)
    (round_sync (first_standing p) round between one)

pub exchanges_follow : (p : Point) (acts : List Act) (turn : Turn) → Exchanges p acts turn → Follows AreSync acts turn
exchanges_follow p acts turn x =
    subst (λ (xs : List Act). Follows AreSync xs turn) (sym x.acts_are) (rounds_first p _ x.rounds x.at x.later turn x.went x.ends)
