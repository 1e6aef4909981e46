-- Pieces of a call, one behind another.
use Rattle.std.proofs.Common.{◌++◌, false, List, sym, subst, inl, inr, append_assoc}
use Rattle.sn_device.specs.Runs.{Act, Point, Then, Turn, goes_on, is_over}
use Rattle.sn_order.specs.Order.{AreInOrder, next_request}
use Rattle.sn_order.proofs.Plain.{MaySync}

-- any acts; acts of which the next request is a sync
abbrev pub AreAny : List Act → Type 0
AreAny acts = Unit {0}

abbrev pub AreSync : List Act → Type 0
AreSync acts = MaySync (next_request acts)

-- in order, before whatever such acts the call goes on with
abbrev pub IsFollowed : (List Act → Type 0) → List Act → Turn → Type 0
IsFollowed C acts (is_over halt) = AreInOrder false acts
IsFollowed C acts (goes_on q) = (rest : List Act) → C rest → AreInOrder false rest → AreInOrder false (acts ++ rest)

-- such acts, and whatever the call goes on with
abbrev pub Follows : (List Act → Type 0) → List Act → Turn → Type 0
Follows C acts (is_over halt) = C acts
Follows C acts (goes_on q) = (rest : List Act) → C (acts ++ rest)

-- one behind another
both_followed : (C : List Act → Type 0) (front later : List Act) (turn : Turn)
    → ((rest : List Act) → C rest → AreInOrder false rest → AreInOrder false (front ++ rest)) → IsFollowed AreAny later turn → Follows C later turn
    → IsFollowed AreAny (front ++ later) turn
both_followed C front later (is_over halt) one two follows = one later follows two
both_followed C front later (goes_on q) one two follows = λ rest any order.
    subst (AreInOrder false) (sym (append_assoc front later rest)) (one (later ++ rest) (follows rest) (two rest tt order))

pub then_followed : (C : List Act → Type 0) (first next : Point → List Act → Turn → Type 0)
    → ((p : Point) (acts : List Act) (turn : Turn) → first p acts turn → IsFollowed C acts turn)
    → ((p : Point) (acts : List Act) (turn : Turn) → next p acts turn → IsFollowed AreAny acts turn)
    → ((p : Point) (acts : List Act) (turn : Turn) → next p acts turn → Follows C acts turn)
    → (p : Point) (acts : List Act) (turn : Turn) → Then first next p acts turn → IsFollowed AreAny acts turn
then_followed C first next one two follows p acts turn (inl (halt, over, is)) = subst (IsFollowed AreAny acts) (sym is) (one p acts (is_over halt) over)
then_followed C first next one two follows p acts turn (inr (front, q, later, goes, behind, is)) =
    subst (λ (xs : List Act). IsFollowed AreAny xs turn) (sym is)
    (both_followed C front later turn (one p front (goes_on q) goes) (two q later turn behind) (follows q later turn behind))
