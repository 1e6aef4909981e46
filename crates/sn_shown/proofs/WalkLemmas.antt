-- A walk over the rows of one kind.
use Rattle.std.proofs.Common.{◌≡◌, ◌∙◌, ◌⊎◌, ◌<◌, suc, length, List, [], ◌∷◌, Option, Some, None, ap, subst, inl, inr, ⊎_elim, arith}
use Rattle.std.specs.List.{Contains}
use Rattle.std.proofs.lemmas.List.Elements.{Contains-append_cases, Contains-push_cases}
use Rattle.sn_row_map.specs.Ranges.{AreRowsOf, rows_behind, rows_of}
use Rattle.sn_row_map.specs.RowMaps.{row_in}
use Rattle.sn_row_map.specs.Steps.{GoesOn}
use Rattle.sn_row_map.specs.declared.row_map.RowMap.{RowMap}
use Rattle.sn_rows.specs.Kinds.{key_kind}
use Rattle.sn_rows.specs.declared.key.Key.{Key}
use Rattle.sn_rows.specs.declared.kind.RowKind.{RowKind}
use Rattle.sn_rows.specs.declared.value.Value.{Value}

abbrev Rowed : Type 0
Rowed = Key × Value

-- what a walk still has to look at
abbrev pub ahead : RowMap → Option Rowed → List Rowed
ahead map None = []
ahead map (Some row) = row ∷ rows_behind map row.0

ahead_is : (map : RowMap) (rows : List Rowed) (found : Option Rowed) → GoesOn map rows found → rows ≡ ahead map found
ahead_is map rows None is = is
ahead_is map rows (Some row) is = is

none_in : (y : Rowed) → Contains [] y → ⊥
none_in y has = let wrong = has.1 in omega arith

-- what a list has is its first, or stands behind it
first_or_later : (x y : Rowed) (ys : List Rowed) → Contains (x ∷ ys) y → (x ≡ y) ⊎ Contains ys y
first_or_later x y ys has =
    ⊎_elim
    (λ (one : Contains (x ∷ []) y). ⊎_elim
    (λ (none : Contains [] y). absurd (none_in y none))
    (λ (same : x ≡ y). inl same)
    (Contains-push_cases [] x y one))
    (λ (later : Contains ys y). inr later)
    (Contains-append_cases (x ∷ []) ys y has)

-- each row of the kind passes, or is still ahead
abbrev pub PassedOrAhead : (Key → Value → Type 0) → RowMap → RowKind → Option Rowed → Type 0
PassedOrAhead P map kind found = (k : Key) (v : Value) → Contains (rows_of map kind) (k, v) → P k v ⊎ Contains (ahead map found) (k, v)

pub walk_begins : (P : Key → Value → Type 0) (map : RowMap) (kind : RowKind) (found : Option Rowed) → GoesOn map (rows_of map kind) found
    → PassedOrAhead P map kind found
walk_begins P map kind found goes k v has =
    inr (subst (λ (rows : List Rowed). Contains rows (k, v)) (ahead_is map (rows_of map kind) found goes) has)

-- the row that was found passes, and so does what passed before
pub walk_goes_on : (P Q : Key → Value → Type 0) (map : RowMap) (kind : RowKind) (k : Key) (v : Value) (found next : Option Rowed)
    → ((a : Key) (b : Value) → P a b → Q a b) → PassedOrAhead P map kind found → found ≡ Some (k, v) → Q k v → GoesOn map (rows_behind map k) next
    → PassedOrAhead Q map kind next
walk_goes_on P Q map kind k v found next still before is here goes a b has =
    ⊎_elim
    (λ (passed : P a b). inl (still a b passed))
    (λ (left : Contains (ahead map found) (a, b)). ⊎_elim
    (λ (same : (k, v) ≡ (a, b)). inl (subst (λ (r : Rowed). Q r.0 r.1) same here))
    (λ (later : Contains (rows_behind map k) (a, b)).
    inr (subst (λ (rows : List Rowed). Contains rows (a, b)) (ahead_is map (rows_behind map k) next goes) later))
    (first_or_later (k, v) (a, b) (rows_behind map k) (subst (λ (f : Option Rowed). Contains (ahead map f) (a, b)) is left)))
    (before a b has)

-- at the end all rows passed
pub walk_ends : (P : Key → Value → Type 0) (map : RowMap) (kind : RowKind) (found : Option Rowed) → PassedOrAhead P map kind found
    → AreRowsOf map kind (rows_of map kind) → found ≡ None → (k : Key) (v : Value) → key_kind k ≡ kind → row_in map k ≡ Some v → P k v
walk_ends P map kind found before are end k v of stands =
    ⊎_elim
    (λ (passed : P k v). passed)
    (λ (left : Contains (ahead map found) (k, v)).
    absurd (none_in (k, v) (subst (λ (f : Option Rowed). Contains (ahead map f) (k, v)) end left)))
    (before k v ((are.whole k v).1 (of, stands)))

pub walk_shorter : (map : RowMap) (k : Key) (v : Value) (found next : Option Rowed) → found ≡ Some (k, v) → GoesOn map (rows_behind map k) next
    → length (ahead map next) < length (ahead map found)
walk_shorter map k v found next is goes =
    let one : length (ahead map found) ≡ suc (length (ahead map next)) = ap (λ (f : Option Rowed). length (ahead map f)) is
    ∙ ap (λ (rows : List Rowed). suc (length rows)) (ahead_is map (rows_behind map k) next goes) in
    omega arith
