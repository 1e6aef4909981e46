-- How many bytes a change of a device's rows has at most, and of which uuids rows are that changes leave.
use Rattle.std.proofs.Common.{◌≡◌, ◌+◌, ◌≤◌, ℕ, Bool, true, false, List, [], ◌∷◌, ◌++◌, length, length-append, Option, Some, None, refl, sym, ap, ◌∙◌, subst, inl, inr, arith, if◌then◌else◌}
use Rattle.std.specs.Int.{to_be_bytes, w32}
use Rattle.std.specs.Prelude.{nat_le}
use Rattle.std.specs.Str.{is_utf8}
use Rattle.std.proofs.lemmas.Bool.{and_parts, cases_Bool, leb-true}
use Rattle.std.proofs.lemmas.List.Concat.{flat_map-cons}
use Rattle.sn_device.specs.Sending.{PutsColumns}
use Rattle.sn_device.specs.States.{Columns, OwnerColumns}
use Rattle.sn_device.specs.Steps.{PutsOwner}
use Rattle.sn_laws.specs.Each.{Each}
use Rattle.sn_laws.specs.Lookups.{Bytes}
use Rattle.sn_rows.specs.Bounds.{after_colon, before_colon, has_colon, has_device_lengths, is_colon, is_device_string}
use Rattle.sn_rows.specs.Cells.{base_bytes, body_bytes, cells_bytes, counted}
use Rattle.sn_rows.specs.Columns.{body_of, key_cells, value_cells}
use Rattle.sn_rows.specs.Facts.{keys_compare}
use Rattle.sn_rows.specs.Kinds.{key_kind}
use Rattle.sn_rows.specs.Spelling.{Entry, entries_of, entry_bytes, entry_of, put, remove, spelled}
use Rattle.sn_rows.specs.Table.{Puts, Removes, Rows, key_of, rows_after, same_key, value_of}
use Rattle.sn_rows.specs.declared.body.RowBody.{RowBody}
use Rattle.sn_rows.specs.declared.body.RowBody.TheVariants as row
use Rattle.sn_rows.specs.declared.body.RowStrings.{RowStrings}
use Rattle.sn_rows.specs.declared.change.Change.{Change}
use Rattle.sn_rows.specs.declared.change.Change.TheVariants.{Put, Remove}
use Rattle.sn_rows.specs.declared.device_rows.LocalItem.{LocalItem}
use Rattle.sn_rows.specs.declared.device_rows.OwnerRow.{OwnerRow}
use Rattle.sn_rows.specs.declared.key.Key.{Key}
use Rattle.sn_rows.specs.declared.key.Key.TheVariants as key
use Rattle.sn_rows.specs.declared.key.Slot.TheVariants.{Older}
use Rattle.sn_rows.specs.declared.value.Value.{Value}
use Rattle.sn_rows.specs.declared.value.Value.TheVariants as value
use Rattle.sn_sync.specs.Fits.{AreBytes}
use Rattle.sn_world.proofs.AnswerPage.{lengths}
use Rattle.sn_world.specs.Fitting.{FitsUuids}

-- the bytes that spell changes
abbrev pub size_of : Change → ℕ
size_of c = length (entry_bytes (entry_of c))

abbrev pub sizes_of : List Change → ℕ
sizes_of changes = length (spelled changes)

pub sizes_cons : (c : Change) (cs : List Change) → sizes_of (c ∷ cs) ≡ size_of c + sizes_of cs
sizes_cons c cs = ap length (flat_map-cons entry_bytes (entry_of c) (entries_of cs)) ∙ length-append (entry_bytes (entry_of c)) (spelled cs)

pub sizes_append : (xs ys : List Change) → sizes_of (xs ++ ys) ≡ sizes_of xs + sizes_of ys
sizes_append [] ys = let none : sizes_of [] ≡ 0 = refl in omega arith
sizes_append (c ∷ xs) ys =
    let whole = sizes_cons c (xs ++ ys) in
    let front = sizes_cons c xs in
    let rest = sizes_append xs ys in
    omega arith

-- ---- cells

length-counted : (bytes : Bytes) → length (counted bytes) ≡ 4 + length bytes
length-counted bytes = omega (arith, length-append (to_be_bytes w32 (length bytes)) bytes)

length-base : (base : Option ℕ) → length (base_bytes base) ≡ 9
length-base None = refl
length-base (Some stamp) = refl

-- a string is no longer than what stands before its last colon, that, and what stands after it
split_length : (text : Bytes) → length text ≤ length (before_colon text) + length (after_colon text) + 1
split_length [] = omega arith
split_length (byte ∷ bytes) =
    let rest = split_length bytes in
    elim (cases_Bool (has_colon bytes)) [
      | inl there ↦ rw there (omega arith)
      | inr none ↦ elim (cases_Bool (is_colon byte)) [
        | inl colon ↦ rw (none, colon) (omega arith)
        | inr other ↦ rw (none, other) (omega arith)
      ]
    ]

string_length : (text : Bytes) → is_device_string text ≡ true → length text ≤ 1056769
string_length text e =
    let both = and_parts (is_utf8 text) (has_device_lengths text) e in
    let two = and_parts (nat_le (length (before_colon text)) 1048576) (nat_le (length (after_colon text)) 8192) both.1 in
    let before = leb-true (length (before_colon text)) 1048576 two.0 in
    let after = leb-true (length (after_colon text)) 8192 two.1 in
    let whole = split_length text in
    omega arith

-- the bytes of a version in a row
abbrev pub body_size : Option RowBody → ℕ
body_size b = length (body_bytes (body_of b))

pub strings_size : (strings : RowStrings) → body_size (Some (row.Sealed strings)) ≡ 9 + length strings.content + length strings.enc
strings_size strings =
    let c = length-counted strings.content in
    let d = length-counted strings.enc in
    let both = length-append (counted strings.content) (counted strings.enc) in
    omega arith

-- whatever it is
pub body_most : (b : Option RowBody) → body_size b ≤ 2113547
body_most None = omega arith
body_most (Some row.Deleted) = omega arith
body_most (Some (row.Sealed strings)) =
    let whole = strings_size strings in
    let content = string_length strings.content strings.content_fits in
    let enc = string_length strings.enc strings.enc_fits in
    omega arith

-- ---- a change

abbrev put_row : Key → Value → Entry
put_row at v = put (key_kind at) (key_cells at) (value_cells v)

entry_is : (c : Change) (at : Key) (v : Value) → Puts c at v → entry_of c ≡ put_row at v
entry_is (Put r) at v p =
    let keys : r.key ≡ at = p.key_is in
    let values : Some r.value ≡ Some v = p.value_is in
    let same : r.value ≡ v = cc in
    cc
entry_is (Remove k) at v p = absurd (let e : None ≡ Some v = p.value_is in cc)

removal_is : (c : Change) (at : Key) → Removes c at → entry_of c ≡ remove (key_kind at) (key_cells at)
removal_is (Put r) at p = absurd (let e : Some r.value ≡ None = p.value_is in cc)
removal_is (Remove k) at p = let keys : k ≡ at = p.key_is in cc

length-put : (at : Key) (v : Value) → length (entry_bytes (put_row at v)) ≡ 10 + length (cells_bytes (key_cells at)) + length (cells_bytes (value_cells v))
length-put at v =
    let k = length-counted (cells_bytes (key_cells at)) in
    let w = length-counted (cells_bytes (value_cells v)) in
    omega (arith, length-append (counted (cells_bytes (key_cells at))) (counted (cells_bytes (value_cells v))))

pub removed_size : (c : Change) (at : ℕ) → Removes c (key.Local at) → size_of c ≤ 100
removed_size c at p = subst (λ (e : Entry). length (entry_bytes e) ≤ 100) (sym (removal_is c (key.Local at) p)) (omega arith)

pub retired_size : (c : Change) → Removes c (key.Set Older) → size_of c ≤ 100
retired_size c p = subst (λ (e : Entry). length (entry_bytes e) ≤ 100) (sym (removal_is c (key.Set Older) p)) (omega arith)

length-local : (l : LocalItem) → length (cells_bytes (value_cells (value.Local l)))
    ≡ length l.uuid + (4 + length l.kind) + 9 + 1 + body_size l.body + body_size l.latest + body_size l.posted
length-local l =
    let base = length-base l.base in
    let kind = length-counted l.kind in
    simp (length-append) (omega arith)

-- an item's row of these columns
abbrev pub columns_size : Columns → ℕ
columns_size cs = 400 + body_size cs.body + body_size cs.latest + body_size cs.posted

pub put_size : (c : Change) (at : ℕ) (cs : Columns) → PutsColumns c at cs → length cs.uuid ≡ 16 → size_of c ≤ columns_size cs
put_size c at cs p uuid =
    let l : LocalItem = p.local in
    let is = p.columns_are in
    let long : length l.uuid ≡ 16 = ap (λ (z : Columns). length z.uuid) is ∙ uuid in
    let kind = (lengths 1 255 l.kind l.kind_fits).1 in
    let body : body_size l.body ≡ body_size cs.body = ap (λ (z : Columns). body_size z.body) is in
    let latest : body_size l.latest ≡ body_size cs.latest = ap (λ (z : Columns). body_size z.latest) is in
    let posted : body_size l.posted ≡ body_size cs.posted = ap (λ (z : Columns). body_size z.posted) is in
    let cells = length-local l in
    let whole = length-put (key.Local at) (value.Local l) in
    subst (λ (e : Entry). length (entry_bytes e) ≤ columns_size cs) (sym (entry_is c (key.Local at) (value.Local l) p.puts)) (omega arith)

-- ---- the device's own row

token_length : (o : OwnerRow) → length o.token ≤ 1024
token_length o = (lengths 1 1024 o.token (and_parts _ _ o.token_fits).0).1

length-owner : (o : OwnerRow) → length (cells_bytes (value_cells (value.Owner o)))
    ≡ (4 + length o.identifier) + length o.account + (4 + length o.token) + (4 + length o.sync_token) + (4 + length o.cursor_token) + 8
length-owner o =
    let a = length-counted o.identifier in
    let b = length-counted o.token in
    let c = length-counted o.sync_token in
    let d = length-counted o.cursor_token in
    simp (length-append) (omega arith)

pub owner_size : (c : Change) (cs : OwnerColumns) → PutsOwner c cs → length cs.account ≡ 16 → size_of c ≤ 67200000
owner_size c cs p account =
    let o : OwnerRow = p.owner in
    let long : length o.account ≡ 16 = ap (λ (z : OwnerColumns). length z.account) p.columns_are ∙ account in
    let identifier = (lengths 1 254 o.identifier o.identifier_fits).1 in
    let token = token_length o in
    let sync = (lengths 0 33554432 o.sync_token o.sync_token_fits).1 in
    let cursor = (lengths 0 33554432 o.cursor_token o.cursor_token_fits).1 in
    let cells = length-owner o in
    let whole = length-put key.Owner (value.Owner o) in
    subst (λ (e : Entry). length (entry_bytes e) ≤ 67200000) (sym (entry_is c key.Owner (value.Owner o) p.puts_it)) (omega arith)

-- ---- uuids

-- where the change puts an item's row, its uuid has 16 bytes
abbrev pub PutsUuid : Change → Type 0
PutsUuid c = (number : ℕ) (local : LocalItem) → Puts c (key.Local number) (value.Local local) → AreBytes 16 local.uuid

pub uuid_put : (c : Change) (at : ℕ) (cs : Columns) → PutsColumns c at cs → AreBytes 16 cs.uuid → PutsUuid c
uuid_put c at cs p uuid number local puts =
    let both : Some (value.Local p.local) ≡ Some (value.Local local) = sym p.puts.value_is ∙ puts.value_is in
    let same : p.local ≡ local = cc in
    subst (λ (l : LocalItem). AreBytes 16 l.uuid) same (subst (λ (z : Columns). AreBytes 16 z.uuid) (sym p.columns_are) uuid)

pub uuid_removed : (c : Change) (at : Key) → Removes c at → PutsUuid c
uuid_removed c at p number local puts = absurd (let e = sym p.value_is ∙ puts.value_is in cc)

uuids_one : (rows : Rows) (c : Change) → PutsUuid c → FitsUuids rows → FitsUuids (rows_after rows (c ∷ []))
uuids_one rows c good have number local there = at (same_key (key_of c) (key.Local number)) refl there
  where
    at : (b : Bool) → same_key (key_of c) (key.Local number) ≡ b → (if b then value_of c else rows (key.Local number)) ≡ Some (value.Local local)
        → AreBytes 16 local.uuid
    at true e is = good number local (record { key_is = (keys_compare (key_of c) (key.Local number)).0 e; value_is = is })
    at false e is = have number local is

pub uuids_after : (rows : Rows) (changes : List Change) → Each PutsUuid changes → FitsUuids rows → FitsUuids (rows_after rows changes)
uuids_after rows [] good have = have
uuids_after rows (c ∷ cs) good have = uuids_after (rows_after rows (c ∷ [])) cs good.1 (uuids_one rows c good.0 have)

pub uuids_same : (rows now : Rows) → ((k : Key) → now k ≡ rows k) → FitsUuids rows → FitsUuids now
uuids_same rows now same have number local there = have number local (sym (same (key.Local number)) ∙ there)
