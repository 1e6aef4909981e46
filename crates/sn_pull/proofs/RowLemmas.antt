-- What one change leaves of a device's rows, and that a row has one value.
use Rattle.std.proofs.Common.{◌≡◌, ◌⊎◌, ℕ, true, false, List, [], ◌∷◌, ◌++◌, None, sym, ap, ◌∙◌, inl, inr}
use Rattle.std.proofs.lemmas.Bool.{cases_Bool}
use mathlib.Core.Path.{fun_ext}
use Rattle.sn_device.specs.Sending.{PutsColumns}
use Rattle.sn_device.specs.States.{Columns, HasLocal, HasOwner, columns}
use Rattle.sn_rows.specs.Facts.{keys_compare, put_here, put_or_not, removed_elsewhere, removed_here, row_after-append}
use Rattle.sn_rows.specs.Table.{Removes, Rows, rows_after, same_key}
use Rattle.sn_rows.specs.declared.change.Change.{Change}
use Rattle.sn_rows.specs.declared.device_rows.LocalItem.{LocalItem}
use Rattle.sn_rows.specs.declared.device_rows.OwnerRow.{OwnerRow}
use Rattle.sn_rows.specs.declared.key.Key.TheVariants as key
use Rattle.sn_rows.specs.declared.value.Value.TheVariants as value

-- ---- one value

pub same_row : (rows : Rows) (number : ℕ) (a b : LocalItem) → HasLocal rows number a → HasLocal rows number b → a ≡ b
same_row rows number a b h k = cc

pub one_owner : (rows : Rows) (a b : OwnerRow) → HasOwner rows a → HasOwner rows b → a ≡ b
one_owner rows a b h k = cc

-- ---- changes

pub after_append : (rows : Rows) (first second : List Change) → rows_after rows (first ++ second) ≡ rows_after (rows_after rows first) second
after_append rows first second = fun_ext (λ at. row_after-append (rows at) at first second)

looked_at : (rows : Rows) (c : Change) (at : ℕ) (cs : Columns) → (put : PutsColumns c at cs) → (n : ℕ) (l : LocalItem)
    → HasLocal (rows_after rows (c ∷ [])) n l
    → ((key.Local at ≡ key.Local n) ⊎ (rows_after rows (c ∷ []) (key.Local n) ≡ rows (key.Local n)))
    → ((n ≡ at) × (columns l ≡ cs)) ⊎ HasLocal rows n l
looked_at rows c at cs put n l found (inl same) =
    let there : HasLocal (rows_after rows (c ∷ [])) n put.local =
    ap (rows_after rows (c ∷ [])) (sym same) ∙ put_here rows c (key.Local at) (value.Local put.local) put.puts in
    let e : l ≡ put.local = same_row (rows_after rows (c ∷ [])) n l put.local found there in
    let m : n ≡ at = cc in
    inl (m, ap (λ (x : LocalItem). columns x) e ∙ put.columns_are)
looked_at rows c at cs put n l found (inr past) = inr (sym past ∙ found)

-- after a put, its row or one from before
pub looked : (rows : Rows) (c : Change) (at : ℕ) (cs : Columns) → PutsColumns c at cs → (n : ℕ) (l : LocalItem) → HasLocal (rows_after rows (c ∷ [])) n l
    → ((n ≡ at) × (columns l ≡ cs)) ⊎ HasLocal rows n l
looked rows c at cs put n l found =
    looked_at rows c at cs put n l found (put_or_not rows c (key.Local at) (value.Local put.local) put.puts (key.Local n))

left_at : (rows : Rows) (c : Change) (at : ℕ) → Removes c (key.Local at) → (n : ℕ) (l : LocalItem) → HasLocal (rows_after rows (c ∷ [])) n l
    → ((same_key (key.Local at) (key.Local n) ≡ true) ⊎ (same_key (key.Local at) (key.Local n) ≡ false)) → HasLocal rows n l
left_at rows c at removes n l found (inl same) =
    let keys : key.Local at ≡ key.Local n = (keys_compare (key.Local at) (key.Local n)).0 same in
    let none : rows_after rows (c ∷ []) (key.Local n) ≡ None = ap (rows_after rows (c ∷ [])) (sym keys) ∙ removed_here rows c (key.Local at) removes in
    absurd cc
left_at rows c at removes n l found (inr apart) =
    sym (removed_elsewhere rows c (key.Local at) (key.Local n) removes (λ e. (let same = (keys_compare (key.Local at) (key.Local n)).1 e in cc))) ∙ found

-- after a removal, one from before
pub left_row : (rows : Rows) (c : Change) (at : ℕ) → Removes c (key.Local at) → (n : ℕ) (l : LocalItem) → HasLocal (rows_after rows (c ∷ [])) n l
    → HasLocal rows n l
left_row rows c at removes n l found = left_at rows c at removes n l found (cases_Bool (same_key (key.Local at) (key.Local n)))
