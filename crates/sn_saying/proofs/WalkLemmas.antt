-- A walk over the rows of one kind.
use Rattle.std.proofs.Common.{◌≡◌, ◌∙◌, ◌⊎◌, ◌<◌, suc, length, List, [], ◌∷◌, Option, Some, None, ap, subst, inl, inr, ⊎_elim, arith}
use Rattle.std.specs.List.{Contains}
use Rattle.std.proofs.lemmas.List.Elements.{Contains-append_cases, Contains-push_cases}
use Rattle.sn_row_map.specs.Ranges.{AreRowsOf, rows_behind, rows_of}
use Rattle.sn_row_map.specs.RowMaps.{row_in}
use Rattle.sn_row_map.specs.Steps.{GoesOn, IsFirst, IsNext}
use Rattle.sn_row_map.specs.declared.row_map.RowMap.{RowMap}
use Rattle.sn_rows.specs.Kinds.{key_kind}
use Rattle.sn_rows.specs.declared.key.Key.{Key}
use Rattle.sn_rows.specs.declared.kind.RowKind.{RowKind}
use Rattle.sn_rows.specs.declared.value.Value.{Value}

abbrev pub Rowed : Type 0
Rowed = Key × Value

-- what a walk still has to look at
abbrev pub ahead : RowMap → Option Rowed → List Rowed
ahead map None = []
ahead map (Some row) = row ∷ rows_behind map row.0

ahead_is : (map : RowMap) (rows : List Rowed) (found : Option Rowed) → GoesOn map rows found → rows ≡ ahead map found
ahead_is map rows None is = is
ahead_is map rows (Some row) is = is

pub none_in : (y : Rowed) → Contains [] y → ⊥
none_in y has = let wrong = has.1 in omega arith

-- what a list has is its first, or stands behind it
pub first_or_later : (x y : Rowed) (ys : List Rowed) → Contains (x ∷ ys) y → (x ≡ y) ⊎ Contains ys y
first_or_later x y ys has =
    ⊎_elim
    (λ (one : Contains (x ∷ []) y). ⊎_elim
    (λ (none : Contains [] y). absurd (none_in y none))
    (λ (same : x ≡ y). inl same)
    (Contains-push_cases [] x y one))
    (λ (later : Contains ys y). inr later)
    (Contains-append_cases (x ∷ []) ys y has)

-- what was found stands in the map
abbrev pub Stands : RowMap → Option Rowed → Type 0
Stands map found = (k : Key) (v : Value) → found ≡ Some (k, v) → row_in map k ≡ Some v

first_stands : (map : RowMap) (kind : RowKind) (found : Option Rowed) → IsFirst map kind found → Stands map found
first_stands map kind None first k v is = absurd (cc)
first_stands map kind (Some row) first k v is = let same : row ≡ (k, v) = cc in subst (λ (r : Rowed). row_in map r.0 ≡ Some r.1) same first.stands

next_stands : (map : RowMap) (at : Key) (found : Option Rowed) → IsNext map at found → Stands map found
next_stands map at None next k v is = absurd (cc)
next_stands map at (Some row) next k v is = let same : row ≡ (k, v) = cc in subst (λ (r : Rowed). row_in map r.0 ≡ Some r.1) same next.stands

-- no row of the kind that was passed is such a one; what was found stands
pub record NonePassed (P : Key → Value → Type 0) (map : RowMap) (kind : RowKind) (found : Option Rowed) : Type 0 where
  pub passed : (k : Key) (v : Value) → Contains (rows_of map kind) (k, v) → ¬ (P k v) ⊎ Contains (ahead map found) (k, v)
  pub stands : Stands map found

pub walk_begins : (P : Key → Value → Type 0) (map : RowMap) (kind : RowKind) (found : Option Rowed) → GoesOn map (rows_of map kind) found
    → IsFirst map kind found → NonePassed P map kind found
walk_begins P map kind found goes first = record {
  passed = λ k v has. inr (subst (λ (rows : List Rowed). Contains rows (k, v)) (ahead_is map (rows_of map kind) found goes) has);
  stands = first_stands map kind found first;
}

pub walk_goes_on : (P : Key → Value → Type 0) (map : RowMap) (kind : RowKind) (k : Key) (v : Value) (found next : Option Rowed)
    → NonePassed P map kind found → found ≡ Some (k, v) → ¬ (P k v) → GoesOn map (rows_behind map k) next → IsNext map k next
    → NonePassed P map kind next
walk_goes_on P map kind k v found next before is here goes on = record {
  passed = λ a b has. ⊎_elim
      (λ (not : ¬ (P a b)). inl not)
      (λ (left : Contains (ahead map found) (a, b)). ⊎_elim
      (λ (same : (k, v) ≡ (a, b)). inl (subst (λ (r : Rowed). ¬ (P r.0 r.1)) same here))
      (λ (later : Contains (rows_behind map k) (a, b)).
      inr (subst (λ (rows : List Rowed). Contains rows (a, b)) (ahead_is map (rows_behind map k) next goes) later))
      (first_or_later (k, v) (a, b) (rows_behind map k) (subst (λ (f : Option Rowed). Contains (ahead map f) (a, b)) is left)))
      (before.passed a b has);
  stands = next_stands map k next on;
}

-- at the end none is
pub walk_ends : (P : Key → Value → Type 0) (map : RowMap) (kind : RowKind) (found : Option Rowed) → NonePassed P map kind found
    → AreRowsOf map kind (rows_of map kind) → found ≡ None → (k : Key) (v : Value) → key_kind k ≡ kind → row_in map k ≡ Some v → ¬ (P k v)
walk_ends P map kind found before are end k v of stands =
    ⊎_elim
    (λ (not : ¬ (P k v)). not)
    (λ (left : Contains (ahead map found) (k, v)).
    absurd (none_in (k, v) (subst (λ (f : Option Rowed). Contains (ahead map f) (k, v)) end left)))
    (before.passed k v ((are.whole k v).1 (of, stands)))

pub walk_shorter : (map : RowMap) (k : Key) (v : Value) (found next : Option Rowed) → found ≡ Some (k, v) → GoesOn map (rows_behind map k) next
    → length (ahead map next) < length (ahead map found)
walk_shorter map k v found next is goes =
    let one : length (ahead map found) ≡ suc (length (ahead map next)) = ap (λ (f : Option Rowed). length (ahead map f)) is
    ∙ ap (λ (rows : List Rowed). suc (length rows)) (ahead_is map (rows_behind map k) next goes) in
    omega arith
