-- The rows that changes leave, as they are found, and items among them.
use Rattle.std.proofs.Common.{◌≡◌, ◌∙◌, ◌⊎◌, ◌<◌, ◌+◌, ℕ, List, [], ◌∷◌, ◌++◌, Option, Some, inl, inr, sym, ap, subst, length, get_or, take, add-one, arith, length-append}
use Rattle.std.proofs.Math.Seq.{get_or-append_seam, take-suc}
use Rattle.std.specs.List.{HoldsAt}
use Rattle.sn_rows.specs.Facts.{last_counts, last_or_spared, row_after-append, spared_stays}
use Rattle.sn_rows.specs.Table.{IsLast, Rows, Spares, changed, row_after, rows_after, value_of}
use Rattle.sn_rows.specs.declared.change.Change.{Change}
use Rattle.sn_rows.specs.declared.device_rows.LocalItem.{LocalItem}
use Rattle.sn_rows.specs.declared.key.Key.{Key}
use Rattle.sn_rows.specs.declared.key.Key.TheVariants as key
use Rattle.sn_rows.specs.declared.value.Value.{Value}
use Rattle.sn_rows.specs.declared.value.Value.TheVariants as value
use Rattle.sn_device.specs.States.{Bytes, HasItem, IsFree, AreApart}
use Rattle.sn_local.specs.Found.{IsGone, PutsNamed}

-- ---- one change more

-- rows after changes and one more, as a whole
pub rows_after-more : (rows : Rows) (changes : List Change) (change : Change)
    → rows_after rows (changes ++ change ∷ []) ≡ rows_after (rows_after rows changes) (change ∷ [])
rows_after-more rows changes change = λ i k. row_after-append (rows k) k changes (change ∷ []) i

-- one element more
pub take_more : {X : Type 0} (xs : List X) (k : ℕ) (x : X) → k < length xs → x ≡ get_or xs k x → take (k + 1) xs ≡ take k xs ++ x ∷ []
take_more {X} xs k x within is =
    ap (λ (n : ℕ). take n xs) (add-one k) ∙ take-suc xs k x within ∙ ap (λ (y : X). take k xs ++ y ∷ []) (sym is)

-- a row after one change more
pub found_more : (found : Option Value) (key : Key) (changes : List Change) (k : ℕ) (change : Change) → k < length changes
    → change ≡ get_or changes k change → row_after found key (take (k + 1) changes) ≡ changed (row_after found key (take k changes)) key change
found_more found key changes k change within is =
    ap (λ (cs : List Change). row_after found key cs) (take_more changes k change within is)
    ∙ row_after-append found key (take k changes) (change ∷ [])

-- ---- items by their uuids

-- a change puts under one number
one_number : (uuid : Bytes) (change : Change) (n m : ℕ) → PutsNamed uuid change n → PutsNamed uuid change m → n ≡ m
one_number uuid change n m (a, first, x) (b, second, y) =
    let same : key.Local n ≡ key.Local m = sym first.key_is ∙ second.key_is in cc

-- where the item of the number isn't there any more
pub gone_from : (rows : Rows) (uuid : Bytes) (change : Change) (n : ℕ) → PutsNamed uuid change n → ((local : LocalItem) → ¬ (HasItem rows uuid n local))
    → IsGone rows uuid change
gone_from rows uuid change n put none m other local has =
    none local (subst (λ (k : ℕ). HasItem rows uuid k local) (one_number uuid change m n other put) has)

-- none of the first so many changes puts an item of the uuid that still has it
abbrev pub AreGone : Rows → Bytes → List Change → ℕ → Type 0
AreGone rows uuid changes i = (k : ℕ) → k < i → HoldsAt (IsGone rows uuid) changes k

-- no item of the rows before has the uuid still
abbrev pub NoneLeft : Rows → Rows → Bytes → Type 0
NoneLeft before rows uuid = (n : ℕ) (local : LocalItem) → HasItem before uuid n local → (other : LocalItem) → ¬ (HasItem rows uuid n other)

free_after : (before : Rows) (changes : List Change) (uuid : Bytes) (n : ℕ) (local : LocalItem)
    → AreGone (rows_after before changes) uuid changes (length changes) → NoneLeft before (rows_after before changes) uuid
    → HasItem (rows_after before changes) uuid n local
    → (((change : Change) × IsLast changes (key.Local n) change) ⊎ Spares (key.Local n) changes) → ⊥
free_after before changes uuid n local gone none has (inl (change, last)) =
    let found : Option Value = before (key.Local n) in
    let value_is : value_of change ≡ Some (value.Local local) =
    sym (ap (row_after found (key.Local n)) last.parts ∙ last_counts found (key.Local n) last.before change last.after last.named last.spared) ∙ has.0 in
    let here : get_or changes (length last.before) change ≡ change =
    ap (λ (cs : List Change). get_or cs (length last.before) change) last.parts ∙ get_or-append_seam last.before change last.after change in
    let within : length last.before < length changes =
    omega (arith, ap (λ (cs : List Change). length cs) last.parts, length-append last.before (change ∷ last.after)) in
    let is : IsGone (rows_after before changes) uuid change = subst (IsGone (rows_after before changes) uuid) here (gone (length last.before) within change) in
    is n (local, record { key_is = last.named; value_is = value_is }, has.1) local has
free_after before changes uuid n local gone none has (inr spared) =
    none n local (sym (spared_stays (before (key.Local n)) (key.Local n) changes spared) ∙ has.0, has.1) local has

pub free_from : (before : Rows) (changes : List Change) (uuid : Bytes)
    → AreGone (rows_after before changes) uuid changes (length changes) → NoneLeft before (rows_after before changes) uuid
    → IsFree (rows_after before changes) uuid
free_from before changes uuid gone none n local has =
    free_after before changes uuid n local gone none has (last_or_spared changes (key.Local n))

-- the one item that has it had another number
pub left_of_one : (before rows : Rows) (uuid : Bytes) (n : ℕ) (local : LocalItem) → AreApart before → HasItem before uuid n local
    → ((other : LocalItem) → ¬ (HasItem rows uuid n other)) → NoneLeft before rows uuid
left_of_one before rows uuid n local apart had none m twin has other there =
    none other (subst (λ (k : ℕ). HasItem rows uuid k other) (apart m n twin local has.0 had.0 (has.1 ∙ sym had.1)) there)
