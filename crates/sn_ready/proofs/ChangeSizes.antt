-- Neither the commit of a set that is asked for nor the one that drops it is more than a batch.
use Rattle.std.proofs.Common.{◌≡◌, ◌+◌, ◌≤◌, ℕ, List, [], ◌∷◌, length, length-append, drop, Some, None, refl, sym, ap, ◌∙◌, subst, arith}
use Rattle.std.specs.Int.{to_be_bytes, w32}
use Rattle.sn_device.specs.Runs.{IsBatch}
use Rattle.sn_device.specs.Steps.{Asks, Forgets}
use Rattle.sn_laws.specs.Lookups.{Bytes}
use Rattle.sn_rows.specs.Cells.{cells_bytes, counted}
use Rattle.sn_rows.specs.Columns.{key_cells, value_cells}
use Rattle.sn_rows.specs.Kinds.{key_kind}
use Rattle.sn_rows.specs.Spelling.{Entry, entry_bytes, entry_of, put, remove}
use Rattle.sn_rows.specs.Table.{Puts, Removes, Rows}
use Rattle.sn_rows.specs.declared.change.Change.{Change}
use Rattle.sn_rows.specs.declared.change.Change.TheVariants.{Put, Remove}
use Rattle.sn_rows.specs.declared.device_rows.SetRow.{SetRow}
use Rattle.sn_rows.specs.declared.key.Key.{Key}
use Rattle.sn_rows.specs.declared.key.Key.TheVariants as key
use Rattle.sn_rows.specs.declared.key.Slot.TheVariants.{Asked}
use Rattle.sn_rows.specs.declared.value.Value.{Value}
use Rattle.sn_rows.specs.declared.value.Value.TheVariants as value
use Rattle.sn_string.specs.declared.params.KeySet.{KeySet}
use Rattle.sn_string.specs.declared.params.Params.{Params}
use Rattle.sn_keys.specs.Keys.{AreKeysOf, derived, third}
use Rattle.sn_device.specs.States.{IsSetOf}
use Rattle.std.proofs.lemmas.List.{length-take}
use Rattle.sn_world.proofs.AnswerPage.{lengths}
use Rattle.sn_world.proofs.RowSizes.{size_of, sizes_cons, sizes_of}

abbrev put_row : Key → Value → Entry
put_row at v = put (key_kind at) (key_cells at) (value_cells v)

entry_is : (c : Change) (at : Key) (v : Value) → Puts c at v → entry_of c ≡ put_row at v
entry_is (Put r) at v p =
    let keys : r.key ≡ at = p.key_is in
    let values : Some r.value ≡ Some v = p.value_is in
    let same : r.value ≡ v = cc in
    cc
entry_is (Remove k) at v p = absurd (let e : None ≡ Some v = p.value_is in cc)

removal_is : (c : Change) (at : Key) → Removes c at → entry_of c ≡ remove (key_kind at) (key_cells at)
removal_is (Put r) at p = absurd (let e : Some r.value ≡ None = p.value_is in cc)
removal_is (Remove k) at p = let keys : k ≡ at = p.key_is in cc

length-counted : (bytes : Bytes) → length (counted bytes) ≡ 4 + length bytes
length-counted bytes = omega (arith, length-append (to_be_bytes w32 (length bytes)) bytes)

length-put : (at : Key) (v : Value) → length (entry_bytes (put_row at v)) ≡ 10 + length (cells_bytes (key_cells at)) + length (cells_bytes (value_cells v))
length-put at v =
    let k = length-counted (cells_bytes (key_cells at)) in
    let w = length-counted (cells_bytes (value_cells v)) in
    omega (arith, length-append (counted (cells_bytes (key_cells at))) (counted (cells_bytes (value_cells v))))

length-set : (keys : SetRow) → length (cells_bytes (value_cells (value.Set keys)))
    ≡ 4 + (4 + length keys.pw_nonce) + length keys.pw + length keys.mk + length keys.ak
length-set keys =
    let nonce = length-counted keys.pw_nonce in
    simp (length-append) (omega arith)

nonce_short : (keys : SetRow) → length keys.pw_nonce ≤ 256
nonce_short keys = (lengths 1 256 keys.pw_nonce keys.nonce_fits).1

third_short : (n : ℕ) (bytes : Bytes) → length (third n bytes) ≤ 32
third_short n bytes = let short = length-take 32 (drop n bytes) in omega arith

set_size : (c : Change) (keys : SetRow) (set : KeySet) (identifier password : Bytes) (params : Params) → Puts c (key.Set Asked) (value.Set keys)
    → IsSetOf identifier keys set → AreKeysOf password params set → size_of c ≤ 1000
set_size c keys set identifier password params puts of own =
    let cells = length-set keys in
    let whole = length-put (key.Set Asked) (value.Set keys) in
    let nonce = nonce_short keys in
    let pw : length keys.pw ≤ 32 = subst (λ (b : Bytes). length b ≤ 32) (sym own.pw ∙ of.pw) (third_short 0 (derived password params)) in
    let mk : length keys.mk ≤ 32 = subst (λ (b : Bytes). length b ≤ 32) (sym own.mk ∙ of.mk) (third_short 32 (derived password params)) in
    let ak : length keys.ak ≤ 32 = subst (λ (b : Bytes). length b ≤ 32) (sym own.ak ∙ of.ak) (third_short 64 (derived password params)) in
    subst (λ (e : Entry). length (entry_bytes e) ≤ 1000) (sym (entry_is c (key.Set Asked) (value.Set keys) puts)) (omega arith)

dropped_size : (c : Change) → Removes c (key.Set Asked) → size_of c ≤ 100
dropped_size c p = subst (λ (e : Entry). length (entry_bytes e) ≤ 100) (sym (removal_is c (key.Set Asked) p)) (omega arith)

one_fits : (c : Change) (changes : List Change) → changes ≡ c ∷ [] → size_of c ≤ 1000 → IsBatch changes
one_fits c changes is few =
    let whole = sizes_cons c [] in
    let same = ap sizes_of is in
    let empty : sizes_of [] ≡ 0 = refl in
    omega arith

pub asks_fit : (rows : Rows) (set : KeySet) (changes : List Change) (password : Bytes) (params : Params) → AreKeysOf password params set
    → Asks rows set changes → IsBatch changes
asks_fit rows set changes password params own x =
    one_fits x.change changes x.changes_are (set_size x.change x.put.keys set x.owner.identifier password params x.put.puts x.put.keys_are own)

pub forgets_fit : (rows : Rows) (changes : List Change) → Forgets rows changes → IsBatch changes
forgets_fit rows changes x = let few = dropped_size x.change x.removes in one_fits x.change changes x.changes_are (omega arith)
