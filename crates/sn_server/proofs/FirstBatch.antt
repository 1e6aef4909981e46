-- The bytes that spell the first commit are few enough for one batch.
use Rattle.std.proofs.Common.{◌≡◌, ℕ, ◌+◌, ◌≤◌, List, [], ◌∷◌, ◌++◌, length, Some, None, sym, ap, ◌∙◌, subst, arith, length-append}
use Rattle.std.specs.Int.{to_be_bytes, w32}
use Rattle.std.proofs.lemmas.List.Concat.{flat_map-cons}
use Rattle.sn_journal.specs.Image.{most_payload}
use Rattle.sn_rows.specs.Cells.{cells_bytes, counted}
use Rattle.sn_rows.specs.Columns.{value_cells}
use Rattle.sn_rows.specs.Kinds.{key_kind}
use Rattle.sn_rows.specs.Spelling.{Entry, entries_bytes, entry_bytes, entry_of, put, spelled}
use Rattle.sn_rows.specs.declared.change.Change.{Change}
use Rattle.sn_rows.specs.declared.change.Change.TheVariants.{Put, Remove}
use Rattle.sn_rows.specs.declared.key.Key.TheVariants as key
use Rattle.sn_rows.specs.declared.server_rows.StoreRow.{StoreRow}
use Rattle.sn_rows.specs.declared.value.Value.TheVariants as value
use Rattle.sn_server.specs.Beginning.{PutsFirst}

-- the store's row as it stands in the bytes
abbrev store_entry : StoreRow → Entry
store_entry store = put (key_kind key.Store) [] (value_cells (value.Store store))

store_short : (store : StoreRow) → length store.secret ≡ 32 → length (entries_bytes (store_entry store ∷ [])) ≤ most_payload
store_short store size =
    let cells = cells_bytes (value_cells (value.Store store)) in
    let many : length cells ≡ length store.secret + 16 = length-append store.secret _ in
    let whole : length (counted cells) ≡ 4 + length cells = length-append (to_be_bytes w32 (length cells)) cells in
    let both : length (entry_bytes (store_entry store)) ≡ 6 + length (counted cells) = omega (arith, length-append (counted []) (counted cells)) in
    let one : entries_bytes (store_entry store ∷ []) ≡ entry_bytes (store_entry store) ++ [] = flat_map-cons entry_bytes (store_entry store) [] in
    omega (arith, ap length one, length-append (entry_bytes (store_entry store)) [], both, whole, many, size)

pub first_fits : (secret : List ℕ) (change : Change) → PutsFirst secret change → length secret ≡ 32 → length (spelled (change ∷ [])) ≤ most_payload
first_fits secret (Put row) p size =
    let keys : row.key ≡ key.Store = p.puts.key_is in
    let values : Some row.value ≡ Some (value.Store p.store) = p.puts.value_is in
    let same : row.value ≡ value.Store p.store = cc in
    let entry : entry_of (Put row) ≡ store_entry p.store = cc in
    subst (λ (e : Entry). length (entries_bytes (e ∷ [])) ≤ most_payload) (sym entry) (store_short p.store (ap length p.secret_is ∙ size))
first_fits secret (Remove at) p size = absurd (let none : None ≡ Some (value.Store p.store) = p.puts.value_is in cc)
