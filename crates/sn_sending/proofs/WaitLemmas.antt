-- The items that wait, in the order of their numbers.
use Rattle.std.specs.Prelude.{◌≡◌, ◌⊎◌, ◌+◌, ◌<◌, ◌≤◌, ℕ, zero, suc, Bool, true, false, List, [], ◌∷◌, map, Option, Some, None, IsSome}
use Rattle.std.specs.List.{AllByRecursion, Contains}
use Rattle.std.specs.List.Sorted.{IsStrictlySortedBy}
use Rattle.std.specs.Cmp.{nat_cmp_is}
use Rattle.std.specs.Ordering.{nat_cmp}
use Rattle.std.specs.declared.cmp.Ordering.TheVariants.{Less}
use Rattle.std.proofs.Common.{arith, inl, inr, refl, sym, ap, subst, ◌∙◌}
use Rattle.std.proofs.lemmas.List.Elements.{Contains-append_cases, Contains-append_left, Contains-append_right, Contains-push, Contains-push_cases}
use Rattle.std.proofs.lemmas.Map.Keys.{IsStrictlyIncreasing-from_sorted}
use Rattle.std.proofs.Math.Nat.{eq-or-lt_of_le}
use Rattle.sn_rows.specs.Table.{Rows}
use Rattle.sn_rows.specs.declared.body.RowBody.{RowBody}
use Rattle.sn_rows.specs.declared.device_rows.LocalItem.{LocalItem}
use Rattle.sn_rows.specs.declared.key.Key.TheVariants as key
use Rattle.sn_rows.specs.declared.value.Value.{Value}
use Rattle.sn_rows.specs.declared.value.Value.TheVariants as value
use Rattle.sn_device.specs.Sending.{AreWaiting, IsWaiting, Numbered}
use Rattle.sn_device.specs.States.{HasLocal}

-- ---- one number

either_or_not : (draft : Option RowBody) (stale : Bool) → (IsSome draft ⊎ (stale ≡ true)) ⊎ ¬ (IsSome draft ⊎ (stale ≡ true))
either_or_not (Some version) stale = inl (inl refl)
either_or_not None true = inl (inr refl)
either_or_not None false = inr (λ h. elim h [ inl some ↦ absurd cc | inr is ↦ absurd cc ])

-- the item of this number waits
abbrev WaitsAt : Rows → ℕ → Type 0
WaitsAt rows n = (local : LocalItem) × HasLocal rows n local × IsWaiting local

-- no item of this number does
abbrev WaitsNotAt : Rows → ℕ → Type 0
WaitsNotAt rows n = (local : LocalItem) → HasLocal rows n local → ¬ (IsWaiting local)

waits_or_not : (rows : Rows) (n : ℕ) (found : Option Value) → rows (key.Local n) ≡ found → WaitsAt rows n ⊎ WaitsNotAt rows n
waits_or_not rows n (Some (value.Local item)) is =
    elim (either_or_not item.latest item.stale) [
      | inl waits ↦ inl (item, is, waits)
      | inr not ↦ inr (λ local has waits. let same : local ≡ item = cc in not (subst IsWaiting same waits))
    ]
waits_or_not rows n found is = inr (λ local has waits. absurd cc)

-- ---- those from a number on

-- the items that wait and have one of so many numbers from this one on, by rising number
abbrev pub AreWaitingFrom : Rows → ℕ → ℕ → List Numbered → Type 0
AreWaitingFrom rows from zero left = left ≡ []
AreWaitingFrom rows from (suc count) left =
    ((local : LocalItem) × (rest : List Numbered) × HasLocal rows from local × IsWaiting local × (left ≡ (from, local) ∷ rest)
    × AreWaitingFrom rows (suc from) count rest)
    ⊎ (WaitsNotAt rows from × AreWaitingFrom rows (suc from) count left)

pub there_are : (rows : Rows) (from count : ℕ) → (left : List Numbered) × AreWaitingFrom rows from count left
there_are rows from zero = ([], refl)
there_are rows from (suc count) =
    let later = there_are rows (suc from) count in
    elim (waits_or_not rows from (rows (key.Local from)) refl) [
      | inl at ↦ ((from, at.0) ∷ later.0, inl (at.0, later.0, at.1, at.2, refl, later.1))
      | inr not ↦ (later.0, inr (not, later.1))
    ]

in_front : {X : Type 0} (x : X) (xs : List X) → Contains (x ∷ xs) x
in_front x xs = Contains-append_left (x ∷ []) xs x (Contains-push [] x)

-- each of them is there
pub is_there : (rows : Rows) (from count : ℕ) (left : List Numbered) (n : ℕ) (local : LocalItem) → AreWaitingFrom rows from count left
    → from ≤ n → n < from + count → HasLocal rows n local → IsWaiting local → Contains left (n, local)
is_there rows from zero left n local are low high has waits = absurd (omega arith)
is_there rows from (suc count) left n local (inl (item, rest, stands, waiting, is, later)) low high has waits =
    elim (eq-or-lt_of_le low) [
      | inl here ↦
          let same : rows (key.Local n) ≡ Some (value.Local item) = subst (λ (m : ℕ). rows (key.Local m) ≡ Some (value.Local item)) here stands in
          let one : item ≡ local = cc in
          let front : Contains left (from, item) = subst (λ (l : List Numbered). Contains l (from, item)) (sym is) (in_front (from, item) rest) in
          let there : Contains left (n, item) = subst (λ (m : ℕ). Contains left (m, item)) here front in
          subst (λ (i : LocalItem). Contains left (n, i)) one there
      | inr further ↦
          let found : Contains rest (n, local) = is_there rows (suc from) count rest n local later (omega arith) (omega arith) has waits in
          subst (λ (l : List Numbered). Contains l (n, local)) (sym is) (Contains-append_right ((from, item) ∷ []) rest (n, local) found)
    ]
is_there rows from (suc count) left n local (inr (not, later)) low high has waits =
    elim (eq-or-lt_of_le low) [
      | inl here ↦ absurd (not local (subst (λ (m : ℕ). rows (key.Local m) ≡ Some (value.Local local)) (sym here) has) waits)
      | inr further ↦ is_there rows (suc from) count left n local later (omega arith) (omega arith) has waits
    ]

-- and nothing else is
pub waits_there : (rows : Rows) (from count : ℕ) (left : List Numbered) (w : Numbered) → AreWaitingFrom rows from count left
    → Contains left w → (from ≤ w.0) × HasLocal rows w.0 w.1 × IsWaiting w.1
waits_there rows from zero left w are found =
    let none : Contains [] w = subst (λ (l : List Numbered). Contains l w) are found in absurd (omega (arith, none.1))
waits_there rows from (suc count) left w (inl (item, rest, stands, waiting, is, later)) found =
    elim (Contains-append_cases ((from, item) ∷ []) rest w (subst (λ (l : List Numbered). Contains l w) is found)) [
      | inl first ↦ elim (Contains-push_cases [] (from, item) w first) [
        | inl none ↦ absurd (omega (arith, none.1))
        | inr same ↦
            let at : (Numbered → Type 0) = λ v. (from ≤ v.0) × HasLocal rows v.0 v.1 × IsWaiting v.1 in
            subst at same (omega arith, stands, waiting)
      ]
      | inr behind ↦ let there = waits_there rows (suc from) count rest w later behind in (omega (arith, there.0), there.1, there.2)
    ]
waits_there rows from (suc count) left w (inr (not, later)) found =
    let there = waits_there rows (suc from) count left w later found in (omega (arith, there.0), there.1, there.2)

numbers_above : (rows : Rows) (from count : ℕ) (left : List Numbered) (n : ℕ) → AreWaitingFrom rows from count left → n < from
    → AllByRecursion (λ m. nat_cmp n m ≡ Less) (map (λ w. w.0) left)
numbers_above rows from zero left n are below = subst (λ (l : List Numbered). AllByRecursion (λ m. nat_cmp n m ≡ Less) (map (λ w. w.0) l)) (sym are) tt
numbers_above rows from (suc count) left n (inl (item, rest, stands, waiting, is, later)) below =
    subst (λ (l : List Numbered). AllByRecursion (λ m. nat_cmp n m ≡ Less) (map (λ w. w.0) l)) (sym is)
    (sym (nat_cmp_is n from Less below), numbers_above rows (suc from) count rest n later (omega arith))
numbers_above rows from (suc count) left n (inr (not, later)) below = numbers_above rows (suc from) count left n later (omega arith)

numbers_rise : (rows : Rows) (from count : ℕ) (left : List Numbered) → AreWaitingFrom rows from count left
    → IsStrictlySortedBy nat_cmp (map (λ w. w.0) left)
unfolding IsStrictlySortedBy
numbers_rise rows from zero left are = subst (λ (l : List Numbered). IsStrictlySortedBy nat_cmp (map (λ w. w.0) l)) (sym are) tt
numbers_rise rows from (suc count) left (inl (item, rest, stands, waiting, is, later)) =
    subst (λ (l : List Numbered). IsStrictlySortedBy nat_cmp (map (λ w. w.0) l)) (sym is)
    (numbers_above rows (suc from) count rest from later (omega arith), numbers_rise rows (suc from) count rest later)
numbers_rise rows from (suc count) left (inr (not, later)) = numbers_rise rows (suc from) count left later

-- below a number that is above all items' numbers they are all that wait
pub all_waiting : (rows : Rows) (top : ℕ) (all : List Numbered) → ((n : ℕ) (local : LocalItem) → HasLocal rows n local → n < top)
    → AreWaitingFrom rows 0 top all → AreWaiting rows all
all_waiting rows top all below are = record {
  rising = IsStrictlyIncreasing-from_sorted (map (λ w. w.0) all) (numbers_rise rows 0 top all are);
  whole = λ n local. (
    λ found. let there = waits_there rows 0 top all (n, local) are found in (there.1, there.2),
    λ (has, waits). is_there rows 0 top all n local are (omega arith) (let less = below n local has in omega arith) has waits,
  );
}

-- ---- the next of them

-- nothing waits from here on
pub none_from : (rows : Rows) (from count : ℕ) (left : List Numbered) → AreWaitingFrom rows from count left
    → ((n : ℕ) (local : LocalItem) → from ≤ n → HasLocal rows n local → ¬ (IsWaiting local)) → left ≡ []
none_from rows from zero left are none = are
none_from rows from (suc count) left (inl (item, rest, stands, waiting, is, later)) none = absurd (none from item (omega arith) stands waiting)
none_from rows from (suc count) left (inr (not, later)) none =
    none_from rows (suc from) count left later (λ n local low. none n local (omega arith))

-- the list begins with this item, and goes on with those behind it
abbrev pub GoesOnBy : Rows → ℕ → List Numbered → Numbered → Type 0
GoesOnBy rows top left found = (rest : List Numbered) × (count : ℕ) × (left ≡ found ∷ rest) × (suc found.0 + count ≡ top)
    × AreWaitingFrom rows (suc found.0) count rest

-- the least that waits from here on is the first
pub first_from : (rows : Rows) (from count top : ℕ) (left : List Numbered) (found : Numbered) → AreWaitingFrom rows from count left → from + count ≡ top
    → from ≤ found.0 → found.0 < top → HasLocal rows found.0 found.1 → IsWaiting found.1
    → ((n : ℕ) (local : LocalItem) → from ≤ n → HasLocal rows n local → IsWaiting local → found.0 ≤ n) → GoesOnBy rows top left found
first_from rows from zero top left found are ends low high has waits least = absurd (omega arith)
first_from rows from (suc count) top left found (inl (item, rest, stands, waiting, is, later)) ends low high has waits least =
    let here : found.0 ≡ from = omega (arith, least from item (omega arith) stands waiting) in
    let at : rows (key.Local from) ≡ Some (value.Local found.1) = subst (λ (m : ℕ). rows (key.Local m) ≡ Some (value.Local found.1)) here has in
    let one : item ≡ found.1 = cc in
    let same : (from, item) ≡ found = ap (λ (m : ℕ). (m, item)) (sym here) ∙ ap (λ (i : LocalItem). (found.0, i)) one in
    (rest, count, is ∙ ap (λ (w : Numbered). w ∷ rest) same, omega arith, subst (λ (m : ℕ). AreWaitingFrom rows (suc m) count rest) (sym here) later)
first_from rows from (suc count) top left found (inr (not, later)) ends low high has waits least =
    elim (eq-or-lt_of_le low) [
      | inl here ↦ absurd (not found.1 (subst (λ (m : ℕ). rows (key.Local m) ≡ Some (value.Local found.1)) (sym here) has) waits)
      | inr further ↦ first_from rows (suc from) count top left found later (omega arith) (omega arith) high has waits
          (λ n local past. least n local (omega arith))
    ]
