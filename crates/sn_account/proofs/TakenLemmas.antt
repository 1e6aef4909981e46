-- The rows that changes leave, as the code finds them.
use Rattle.std.proofs.Common.{◌≡◌, ◌≢◌, ◌∙◌, List, [], ◌∷◌, ◌++◌, Bool, Option, ap, ℕ, ◌<◌, ◌+◌, length, get_or, take}
use Rattle.std.specs.Prelude.{if◌then◌else◌}
use Rattle.sn_rows.specs.Facts.{apart_keys, keys_compare, row_after-append}
use Rattle.sn_rows.specs.Table.{Rows, changed, key_of, row_after, rows_after, value_of}
use Rattle.sn_rows.specs.declared.change.Change.{Change}
use Rattle.sn_rows.specs.declared.key.Key.{Key}
use Rattle.sn_rows.specs.declared.value.Value.{Value}
use Rattle.sn_account.proofs.ListLemmas.{take_more}

-- rows after changes and one more, as a whole
pub rows_after-more : (rows : Rows) (changes : List Change) (change : Change)
    → rows_after rows (changes ++ change ∷ []) ≡ rows_after (rows_after rows changes) (change ∷ [])
rows_after-more rows changes change = λ i k. row_after-append (rows k) k changes (change ∷ []) i

-- a change of another row, and of this one
pub changed_elsewhere : (found : Option Value) (key : Key) (change : Change) → key_of change ≢ key → changed found key change ≡ found
changed_elsewhere found key change apart = ap (λ (b : Bool). if b then value_of change else found) (apart_keys (key_of change) key apart)

pub changed_here : (found : Option Value) (key : Key) (change : Change) → key_of change ≡ key → changed found key change ≡ value_of change
changed_here found key change is = ap (λ (b : Bool). if b then value_of change else found) ((keys_compare (key_of change) key).1 is)

-- a row after one change more
pub found_more : (found : Option Value) (key : Key) (changes : List Change) (k : ℕ) (change : Change) → k < length changes
    → change ≡ get_or changes k change → row_after found key (take (k + 1) changes) ≡ changed (row_after found key (take k changes)) key change
found_more found key changes k change within is =
    ap (λ (cs : List Change). row_after found key cs) (take_more changes k change within is)
    ∙ row_after-append found key (take k changes) (change ∷ [])
