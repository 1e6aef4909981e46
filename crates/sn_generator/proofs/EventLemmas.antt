-- Events one after another.
use Rattle.std.proofs.Common.{◌≡◌, ◌≢◌, ◌⊎◌, ◌<◌, ◌≤◌, ℕ, zero, suc, ◌+◌, List, [], ◌∷◌, ◌++◌, length, Option, Some, None, Bool, true, false, cond, refl, sym, ap, ◌∙◌, subst, inl, inr, add-one, arith, length-append}
use Rattle.std.specs.Prelude.{◌==◌, ◌&&◌, ◌||◌, not, nat_le, if◌then◌else◌}
use Rattle.std.specs.List.{list_any}
use Rattle.std.proofs.Math.Nat.{eq-or-lt_of_le}
use Rattle.std.proofs.lemmas.Bool.{and_parts, eqb-true, le-leb, leb-true}
use Rattle.std.proofs.lemmas.List.Sums.{count_by-le-length, sum_by_push}
use Rattle.sn_script.specs.declared.script.Line.{Line}
use Rattle.sn_generator.specs.Generated.{IsEvent, IsLastPut, drawn, edits, events_to, is_put, kind_at, kind_of, label_at, loses, puts, side_at, side_of, syncs, writes_on}
use Rattle.sn_generator.specs.Puts.{act_of, last_label, line_of, puts_after, with_put, writing}
use Rattle.sn_generator.specs.declared.puts.Act.{Act}
use Rattle.sn_generator.specs.declared.puts.Act.TheVariants as act
use Rattle.sn_generator.specs.declared.puts.Puts.{Puts}

-- ---- tests

clash : (b : Bool) → b ≡ true → b ≡ false → ⊥
clash b t f = cc

is_false : (b : Bool) → ¬ (b ≡ true) → b ≡ false
is_false true h = absurd (h refl)
is_false false h = refl

and_both : (a b : Bool) → a ≡ true → b ≡ true → (a && b) ≡ true
and_both true b e k = k
and_both false b e k = absurd (cc)

or_left : (a b : Bool) → a ≡ true → (a || b) ≡ true
or_left true b e = refl
or_left false b e = absurd (cc)

or_right : (a b : Bool) → b ≡ true → (a || b) ≡ true
or_right true b e = refl
or_right false b e = e

same_number : (a b : ℕ) → (a == b) ≡ true → a ≡ b
same_number a b h = eqb-true a b h

number_same : (a b : ℕ) → a ≡ b → (a == b) ≡ true
number_same a b h = grind (arith, h)

at_most : (a b : ℕ) → nat_le a b ≡ true → a ≤ b
at_most a b h = leb-true a b h

is_at_most : (a b : ℕ) → a ≤ b → nat_le a b ≡ true
is_at_most a b h = le-leb a b h

or_cases : (a b : Bool) → (a || b) ≡ true → (a ≡ true) ⊎ (b ≡ true)
or_cases true b h = inl refl
or_cases false b h = inr h

or_none : (a b : Bool) → a ≡ false → b ≡ false → (a || b) ≡ false
or_none true b e k = absurd (cc)
or_none false b e k = k

or_later : (a b c : Bool) → (a || (b || c)) ≡ ((a || b) || c)
or_later true b c = refl
or_later false b c = refl

or_last : (a : Bool) → (a || false) ≡ (false || a)
or_last true = refl
or_last false = refl

and_off : (a b : Bool) → a ≡ false → (a && b) ≡ false
and_off true b e = absurd (cc)
and_off false b e = refl

and_none : (a b : Bool) → b ≡ false → (a && b) ≡ false
and_none true b e = e
and_none false b e = refl

not_so : (b : Bool) → b ≡ false → not b ≡ true
not_so true h = absurd (cc)
not_so false h = refl

so_not : (b : Bool) → b ≡ true → not b ≡ false
so_not true h = refl
so_not false h = absurd (cc)

differs : (a b : ℕ) → a ≢ b → (a == b) ≡ false
differs a b h = is_false (a == b) (λ e. h (same_number a b e))

above : (a b : ℕ) → b < a → nat_le a b ≡ false
above a b h = is_false (nat_le a b) (λ e. let low : a ≤ b = at_most a b e in omega arith)

from_above : (a b : ℕ) → nat_le a b ≡ false → b < a
from_above a b h = grind (arith, h)

from_differs : (a b : ℕ) → (a == b) ≡ false → a ≢ b
from_differs a b h e = clash (a == b) (number_same a b e) h

next_above : (n m : ℕ) → m < n → n ≢ suc m → suc m < n
next_above n m h k = grind (arith, h, k)

least_two : (x : ℕ) → kind_of x ≢ 7 → kind_of x ≤ 6
least_two x h = grind (arith, h)

not_both : (n : ℕ) → n ≡ 0 → n ≡ 1 → ⊥
not_both n e k = omega arith

-- ---- lists of events

any_more : (p : ℕ → Bool) (xs : List ℕ) (y : ℕ) → list_any p (xs ++ y ∷ []) ≡ (list_any p xs || p y)
any_more p [] y = or_last (p y)
any_more p (x ∷ xs) y = ap (λ b. p x || b) (any_more p xs y) ∙ or_later (p x) (list_any p xs) (p y)

length-events_to : (i : ℕ) → length (events_to i) ≡ i
length-events_to zero = refl
length-events_to (suc i) =
    let e : length (events_to i) ≡ i = length-events_to i in
    omega (arith, e, length-append (events_to i) (suc i ∷ []))

any_there : (p : ℕ → Bool) (i k : ℕ) → 1 ≤ k → k ≤ i → p k ≡ true → list_any p (events_to i) ≡ true
any_there p zero k some few h = absurd (omega arith)
any_there p (suc i) k some few h =
    any_more p (events_to i) (suc i)
    ∙ elim (eq-or-lt_of_le few) [
      | inl e ↦ or_right (list_any p (events_to i)) (p (suc i)) (subst (λ n. p n ≡ true) e h)
      | inr less ↦ or_left (list_any p (events_to i)) (p (suc i)) (any_there p i k some (omega arith) h)
    ]

pub label_few : (number i : ℕ) → label_at number i ≤ i
label_few number i = omega (arith, count_by-le-length (is_put number) (events_to i), length-events_to i)

label_more : (number i : ℕ) → label_at number (suc i) ≡ label_at number i + cond (is_put number (suc i)) 1 0
label_more number i = sum_by_push (λ k. cond (is_put number k) 1 0) (events_to i) (suc i)

label_put : (number i : ℕ) → is_put number (suc i) ≡ true → label_at number (suc i) ≡ label_at number i + 1
label_put number i h = label_more number i ∙ ap (λ b. label_at number i + cond b 1 0) h

label_same : (number i : ℕ) → is_put number (suc i) ≡ false → label_at number (suc i) ≡ label_at number i
label_same number i h =
    let e : label_at number (suc i) ≡ label_at number i + 0 = label_more number i ∙ ap (λ b. label_at number i + cond b 1 0) h in
    omega arith

-- ---- puts

-- an event before the next one wrote an item on that one's device
abbrev any_before : ℕ → ℕ → Bool
any_before number i = list_any (writes_on number (side_at number (suc i))) (events_to i)

-- what puts an item writes one, and is no event before the first
put_writes : (number k : ℕ) → is_put number k ≡ true → (1 ≤ k) × (nat_le (kind_at number k) 4 ≡ true)
put_writes number zero h = absurd (cc)
put_writes number (suc i) h =
    (omega arith, low (or_cases (nat_le (kind_at number (suc i)) 3) ((kind_at number (suc i) == 4) && not (any_before number i)) h))
  where
    low : (nat_le (kind_at number (suc i)) 3 ≡ true) ⊎ (((kind_at number (suc i) == 4) && not (any_before number i)) ≡ true)
        → nat_le (kind_at number (suc i)) 4 ≡ true
    low (inl e) = is_at_most (kind_at number (suc i)) 4 (let few : kind_at number (suc i) ≤ 3 = at_most (kind_at number (suc i)) 3 e in omega arith)
    low (inr e) =
        let four : kind_at number (suc i) ≡ 4 =
        same_number (kind_at number (suc i)) 4
        (and_parts (kind_at number (suc i) == 4) (not (any_before number i)) e).0 in
        is_at_most (kind_at number (suc i)) 4 (omega arith)

put_writes_on : (number side k : ℕ) → is_put number k ≡ true → side_at number k ≡ side → writes_on number side k ≡ true
put_writes_on number side k h e =
    and_both (side_at number k == side) (nat_le (kind_at number k) 4) (number_same (side_at number k) side e) (put_writes number k h).1

last_writes : (number side i k : ℕ) → IsLastPut number side (suc i) k → list_any (writes_on number side) (events_to i) ≡ true
last_writes number side i k h =
    any_there (writes_on number side) i k (put_writes number k h.put).0 (let b : k < suc i = h.before in omega arith)
    (put_writes_on number side k h.put h.own)

-- ---- the last put of a device

-- of the events up to one: none wrote an item, or the last put has this label
abbrev pub IsLast : ℕ → ℕ → ℕ → Option ℕ → Type 0
IsLast number side i None = list_any (writes_on number side) (events_to i) ≡ false
IsLast number side i (Some label) = (k : ℕ) × IsLastPut number side (suc i) k × (label ≡ label_at number k)

put_last : (number side i label : ℕ) → is_put number (suc i) ≡ true → side_at number (suc i) ≡ side → label ≡ label_at number (suc i)
    → IsLast number side (suc i) (Some label)
put_last number side i label h own is =
    let last : IsLastPut number side (suc (suc i)) (suc i) =
    record { before = omega arith; put = h; own = own; last = λ j over under put. absurd (omega arith) } in
    (suc i, last, is)

kept_last : (number side i k : ℕ) → (is_put number (suc i) ≡ true → side_at number (suc i) ≢ side) → IsLastPut number side (suc i) k
    → IsLastPut number side (suc (suc i)) k
kept_last number side i k other h = record {
  before = (let b : k < suc i = h.before in omega arith);
  put = h.put;
  own = h.own;
  last = λ j over under put. at j over under put;
}
  where
    at : (j : ℕ) → k < j → j < suc (suc i) → is_put number j ≡ true → side_at number j ≢ side
    at j over under put =
        let below : j ≤ suc i = omega arith in
        elim (eq-or-lt_of_le below) [
          | inl e ↦ subst (λ n. side_at number n ≢ side) (sym e) (other (subst (λ n. is_put number n ≡ true) e put))
          | inr less ↦ h.last j over less put
        ]

-- an event that writes nothing there leaves it
beside_last : (number side i : ℕ) (o : Option ℕ) → writes_on number side (suc i) ≡ false → IsLast number side i o → IsLast number side (suc i) o
beside_last number side i None off h =
    any_more (writes_on number side) (events_to i) (suc i)
    ∙ or_none (list_any (writes_on number side) (events_to i)) (writes_on number side (suc i)) h off
beside_last number side i (Some label) off h = (
  h.0,
  kept_last number side i h.0 (λ put own. clash (writes_on number side (suc i)) (put_writes_on number side (suc i) put own) off) h.1,
  h.2,
)

-- so does an edit
edit_last : (number side i : ℕ) (o : Option ℕ) → is_put number (suc i) ≡ false → (o ≡ None → writes_on number side (suc i) ≡ false)
    → IsLast number side i o → IsLast number side (suc i) o
edit_last number side i None none off h = beside_last number side i None (off refl) h
edit_last number side i (Some label) none off h =
    (h.0, kept_last number side i h.0 (λ put. absurd (clash (is_put number (suc i)) put none)) h.1, h.2)

other_side : (number side i : ℕ) → side_at number i ≢ side → writes_on number side i ≡ false
other_side number side i h = and_off (side_at number i == side) (nat_le (kind_at number i) 4) (differs (side_at number i) side h)

-- ---- what is kept of the puts, behind an event

pub record StandsAt (number i : ℕ) (puts : Puts) : Type 0 where
  pub made : puts.made ≡ label_at number i
  pub of_a : IsLast number 0 i puts.of_a
  pub of_b : IsLast number 1 i puts.of_b

pub stands_first : (number : ℕ) → StandsAt number 0 (record { made = 0; of_a = None; of_b = None })
stands_first number = record { made = refl; of_a = refl; of_b = refl }

one_of_two : (x : ℕ) → side_of x ≢ 0 → side_of x ≡ 1
one_of_two x h = grind (arith, h)

stands_put : (number i : ℕ) (kept : Puts) → is_put number (suc i) ≡ true → StandsAt number i kept
    → StandsAt number (suc i) (with_put kept (drawn number (suc i)))
stands_put number i kept put h = at (side_at number (suc i) == 0) refl
  where
    made : kept.made + 1 ≡ label_at number (suc i)
    made = ap (λ n. n + 1) h.made ∙ sym (label_put number i put)

    at : (b : Bool) → (side_at number (suc i) == 0) ≡ b
        → StandsAt number (suc i)
        (if b then record { made = kept.made + 1; of_a = Some (kept.made + 1); of_b = kept.of_b }
        else record { made = kept.made + 1; of_a = kept.of_a; of_b = Some (kept.made + 1) })
    at true e =
        let own : side_at number (suc i) ≡ 0 = same_number (side_at number (suc i)) 0 e in
        record {
          made = made;
          of_a = put_last number 0 i (kept.made + 1) put own made;
          of_b = beside_last number 1 i kept.of_b (other_side number 1 (suc i) (λ k. not_both (side_at number (suc i)) own k)) h.of_b;
        }
    at false e =
        let off : side_at number (suc i) ≢ 0 = from_differs (side_at number (suc i)) 0 e in
        record {
          made = made;
          of_a = beside_last number 0 i kept.of_a (other_side number 0 (suc i) off) h.of_a;
          of_b = put_last number 1 i (kept.made + 1) put (one_of_two (drawn number (suc i)) off) made;
        }

stands_other : (number i : ℕ) (kept : Puts) → is_put number (suc i) ≡ false → (kept.of_a ≡ None → writes_on number 0 (suc i) ≡ false)
    → (kept.of_b ≡ None → writes_on number 1 (suc i) ≡ false) → StandsAt number i kept → StandsAt number (suc i) kept
stands_other number i kept none a b h = record {
  made = h.made ∙ sym (label_same number i none);
  of_a = edit_last number 0 i kept.of_a none a h.of_a;
  of_b = edit_last number 1 i kept.of_b none b h.of_b;
}

-- the last put of the event's own device
own_last : (number i x : ℕ) (kept : Puts) → StandsAt number i kept → IsLast number (side_of x) i (last_label kept x)
own_last number i x kept h = at (side_of x == 0) refl
  where
    at : (b : Bool) → (side_of x == 0) ≡ b → IsLast number (side_of x) i (if b then kept.of_a else kept.of_b)
    at true e = subst (λ n. IsLast number n i kept.of_a) (sym (same_number (side_of x) 0 e)) h.of_a
    at false e = subst (λ n. IsLast number n i kept.of_b) (sym (one_of_two x (from_differs (side_of x) 0 e))) h.of_b

-- where the device has a last put, the event of either device that writes is another's, or there is one
unwritten_a : (number i label : ℕ) (kept : Puts) → last_label kept (drawn number (suc i)) ≡ Some label → kept.of_a ≡ None
    → writes_on number 0 (suc i) ≡ false
unwritten_a number i label kept last none = other_side number 0 (suc i) (λ own. at (number_same (side_at number (suc i)) 0 own))
  where
    at : (side_at number (suc i) == 0) ≡ true → ⊥
    at e = let is : kept.of_a ≡ Some label = sym (ap (λ b. if b then kept.of_a else kept.of_b) e) ∙ last in cc

unwritten_b : (number i label : ℕ) (kept : Puts) → last_label kept (drawn number (suc i)) ≡ Some label → kept.of_b ≡ None
    → writes_on number 1 (suc i) ≡ false
unwritten_b number i label kept last none =
    other_side number 1 (suc i) (λ own. at (differs (side_at number (suc i)) 0 (λ e. not_both (side_at number (suc i)) e own)))
  where
    at : (side_at number (suc i) == 0) ≡ false → ⊥
    at e = let is : kept.of_b ≡ Some label = sym (ap (λ b. if b then kept.of_a else kept.of_b) e) ∙ last in cc

-- ---- one event more

abbrev pub Follows : ℕ → ℕ → Puts → Act → Type 0
Follows number i kept a =
    IsEvent number (suc i) (line_of a (drawn number (suc i)) (suc i)) × StandsAt number (suc i) (puts_after a kept (drawn number (suc i)))

pub event_follows : (number i : ℕ) (kept : Puts) → StandsAt number i kept → Follows number i kept (act_of kept (drawn number (suc i)))
event_follows number i kept h = at_three (nat_le (kind_at number (suc i)) 3) refl
  where
    putting : is_put number (suc i) ≡ true → Follows number i kept act.Put
    putting is = (puts is refl, stands_put number i kept is h)

    four_put : (kind_at number (suc i) == 4) ≡ true → (any_before number i) ≡ false → is_put number (suc i) ≡ true
    four_put e none = or_right (nat_le (kind_at number (suc i)) 3) ((kind_at number (suc i) == 4) && not (any_before number i)) (and_both (kind_at number (suc i) == 4) (not (any_before number i)) e (not_so (any_before number i) none))

    no_put : nat_le (kind_at number (suc i)) 3 ≡ false → ((kind_at number (suc i) == 4) && not (any_before number i)) ≡ false → is_put number (suc i) ≡ false
    no_put e k = or_none (nat_le (kind_at number (suc i)) 3) ((kind_at number (suc i) == 4) && not (any_before number i)) e k

    beyond : nat_le (kind_at number (suc i)) 3 ≡ false → (kind_at number (suc i) == 4) ≡ false → 4 < (kind_at number (suc i))
    beyond e k = next_above (kind_at number (suc i)) 3 (from_above (kind_at number (suc i)) 3 e) (from_differs (kind_at number (suc i)) 4 k)

    quiet : nat_le (kind_at number (suc i)) 3 ≡ false → (kind_at number (suc i) == 4) ≡ false → (side : ℕ) → writes_on number side (suc i) ≡ false
    quiet e k side = and_none (side_at number (suc i) == side) (nat_le (kind_at number (suc i)) 4) (above (kind_at number (suc i)) 4 (beyond e k))

    staying : nat_le (kind_at number (suc i)) 3 ≡ false → (kind_at number (suc i) == 4) ≡ false → StandsAt number (suc i) kept
    staying e k = stands_other number i kept (no_put e (and_off (kind_at number (suc i) == 4) (not (any_before number i)) k)) (λ _. quiet e k 0) (λ _. quiet e k 1) h

    at_last : nat_le (kind_at number (suc i)) 3 ≡ false → (kind_at number (suc i) == 4) ≡ true → (o : Option ℕ) → last_label kept (drawn number (suc i)) ≡ o → IsLast number (side_at number (suc i)) i o
        → Follows number i kept (writing o)
    at_last e k None is last = putting (four_put k last)
    at_last e k (Some label) is last =
        let none : is_put number (suc i) ≡ false =
        no_put e (and_none (kind_at number (suc i) == 4) (not (any_before number i)) (so_not (any_before number i) (last_writes number (side_at number (suc i)) i last.0 last.1))) in (
          edits last.0 (same_number (kind_at number (suc i)) 4 k) last.1
              (ap (λ n. line_of (act.Edit n) (drawn number (suc i)) (suc i)) last.2),
          stands_other number i kept none (unwritten_a number i label kept is) (unwritten_b number i label kept is) h,
        )

    at_seven : nat_le (kind_at number (suc i)) 3 ≡ false → (kind_at number (suc i) == 4) ≡ false → (b : Bool) → (kind_at number (suc i) == 7) ≡ b
        → Follows number i kept (if b then act.LosingSync else act.Sync)
    at_seven e k true l = (loses (same_number (kind_at number (suc i)) 7 l) refl, staying e k)
    at_seven e k false l =
        (syncs (beyond e k) (least_two (drawn number (suc i)) (from_differs (kind_at number (suc i)) 7 l)) refl, staying e k)

    at_four : nat_le (kind_at number (suc i)) 3 ≡ false → (b : Bool) → (kind_at number (suc i) == 4) ≡ b
        → Follows number i kept (if b then writing (last_label kept (drawn number (suc i))) else if (kind_at number (suc i)) == 7 then act.LosingSync else act.Sync)
    at_four e true k = at_last e k (last_label kept (drawn number (suc i))) refl (own_last number i (drawn number (suc i)) kept h)
    at_four e false k = at_seven e k (kind_at number (suc i) == 7) refl

    at_three : (b : Bool) → nat_le (kind_at number (suc i)) 3 ≡ b
        → Follows number i kept
        (if b then act.Put else if (kind_at number (suc i)) == 4 then writing (last_label kept (drawn number (suc i))) else if (kind_at number (suc i)) == 7 then act.LosingSync else act.Sync)
    at_three true e = putting (or_left (nat_le (kind_at number (suc i)) 3) ((kind_at number (suc i) == 4) && not (any_before number i)) e)
    at_three false e = at_four e (kind_at number (suc i) == 4) refl

pub step : (number i x : ℕ) (kept changed : Puts) (l : Line) → StandsAt number i kept → x ≡ drawn number (suc i)
    → l ≡ line_of (act_of kept x) x (i + 1) → changed ≡ puts_after (act_of kept x) kept x → IsEvent number (suc i) l × StandsAt number (suc i) changed
step number i x kept changed l h is line_is changed_is =
    let both : Follows number i kept (act_of kept (drawn number (suc i))) = event_follows number i kept h in (
      subst (IsEvent number (suc i)) (sym (line_is ∙ ap (λ n. line_of (act_of kept x) x n) (add-one i) ∙ ap (λ y. line_of (act_of kept y) y (suc i)) is)) both.0,
      subst (StandsAt number (suc i)) (sym (changed_is ∙ ap (λ y. puts_after (act_of kept y) kept y) is)) both.1,
    )
