-- The bytes that spell what a page changes of a device's rows are few enough for one batch.
use Rattle.std.proofs.Common.{◌≡◌, ◌+◌, ◌*◌, ◌≤◌, ◌^◌, ℕ, List, [], ◌∷◌, ◌++◌, All, length, length-append, Option, Some, None, refl, sym, ap, ◌∙◌, subst, arith}
use Rattle.std.specs.Int.{to_be_bytes, w32}
use Rattle.std.proofs.lemmas.Bool.{and_parts}
use Rattle.std.proofs.lemmas.List.Concat.{flat_map-cons}
use Rattle.std.proofs.lemmas.List.Elements.{All-head, All-tail}
use Rattle.sn_device.specs.Sending.{PutsColumns}
use Rattle.sn_device.specs.States.{Bytes, Columns, OwnerColumns}
use Rattle.sn_device.specs.Steps.{PutsOwner}
use Rattle.sn_pull.proofs.VersionLemmas.{lengths}
use Rattle.sn_rows.specs.Cells.{base_bytes, body_bytes, cells_bytes, counted}
use Rattle.sn_rows.specs.Columns.{body_of, key_cells, value_cells}
use Rattle.sn_rows.specs.Kinds.{key_kind}
use Rattle.sn_rows.specs.Spelling.{Entry, entries_of, entry_bytes, entry_of, put, remove, spelled}
use Rattle.sn_rows.specs.Table.{Puts, Removes}
use Rattle.sn_rows.specs.declared.body.RowBody.{RowBody}
use Rattle.sn_rows.specs.declared.body.RowBody.TheVariants as row
use Rattle.sn_rows.specs.declared.body.RowStrings.{RowStrings}
use Rattle.sn_rows.specs.declared.change.Change.{Change}
use Rattle.sn_rows.specs.declared.change.Change.TheVariants.{Put, Remove}
use Rattle.sn_rows.specs.declared.device_rows.LocalItem.{LocalItem}
use Rattle.sn_rows.specs.declared.device_rows.OwnerRow.{OwnerRow}
use Rattle.sn_rows.specs.declared.key.Key.{Key}
use Rattle.sn_rows.specs.declared.key.Key.TheVariants as key
use Rattle.sn_rows.specs.declared.server_rows.ItemRow.{ItemRow}
use Rattle.sn_rows.specs.declared.value.Value.{Value}
use Rattle.sn_rows.specs.declared.value.Value.TheVariants as value

-- a change of an item's row without a draft has so many bytes at most
pub record IsSmall (c : Change) : Type 0 where
  pub few : length (entry_bytes (entry_of c)) ≤ 2100000

length-counted : (bytes : Bytes) → length (counted bytes) ≡ 4 + length bytes
length-counted bytes = omega (arith, length-append (to_be_bytes w32 (length bytes)) bytes)

length-base : (base : Option ℕ) → length (base_bytes base) ≡ 9
length-base None = refl
length-base (Some stamp) = refl

length-none : (b : Option RowBody) → b ≡ None → length (body_bytes (body_of b)) ≡ 1
length-none b e = ap (λ (x : Option RowBody). length (body_bytes (body_of x))) e

length-sealed : (b : Option RowBody) (strings : RowStrings) → b ≡ Some (row.Sealed strings)
    → length (body_bytes (body_of b)) ≡ 9 + length strings.content + length strings.enc
length-sealed b strings e =
    let c = length-counted strings.content in
    let d = length-counted strings.enc in
    let both = length-append (counted strings.content) (counted strings.enc) in
    let sized : length (body_bytes (body_of (Some (row.Sealed strings)))) ≡ 9 + length strings.content + length strings.enc = omega arith in
    ap (λ (x : Option RowBody). length (body_bytes (body_of x))) e ∙ sized

-- ---- a change as it stands in the bytes

abbrev put_row : Key → Value → Entry
put_row at v = put (key_kind at) (key_cells at) (value_cells v)

entry_is : (c : Change) (at : Key) (v : Value) → Puts c at v → entry_of c ≡ put_row at v
entry_is (Put r) at v p =
    let keys : r.key ≡ at = p.key_is in
    let values : Some r.value ≡ Some v = p.value_is in
    let same : r.value ≡ v = cc in
    cc
entry_is (Remove k) at v p = absurd (let e : None ≡ Some v = p.value_is in cc)

removal_is : (c : Change) (at : Key) → Removes c at → entry_of c ≡ remove (key_kind at) (key_cells at)
removal_is (Put r) at p = absurd (let e : Some r.value ≡ None = p.value_is in cc)
removal_is (Remove k) at p = let keys : k ≡ at = p.key_is in cc

length-put : (at : Key) (v : Value) → length (entry_bytes (put_row at v)) ≡ 10 + length (cells_bytes (key_cells at)) + length (cells_bytes (value_cells v))
length-put at v =
    let k = length-counted (cells_bytes (key_cells at)) in
    let w = length-counted (cells_bytes (value_cells v)) in
    omega (arith, length-append (counted (cells_bytes (key_cells at))) (counted (cells_bytes (value_cells v))))

pub small_removal : (c : Change) (at : ℕ) → Removes c (key.Local at) → IsSmall c
small_removal c at p = record {
  few = subst (λ (e : Entry). length (entry_bytes e) ≤ 2100000) (sym (removal_is c (key.Local at) p)) (omega arith);
}

-- a row's cells
length-local : (l : LocalItem) → length (cells_bytes (value_cells (value.Local l)))
    ≡ length l.uuid + (4 + length l.kind) + 9 + 1 + length (body_bytes (body_of l.body)) + length (body_bytes (body_of l.latest))
    + length (body_bytes (body_of l.posted))
length-local l =
    let base = length-base l.base in
    let kind = length-counted l.kind in
    simp (length-append) (omega arith)

pub small_put : (c : Change) (at : ℕ) (cs : Columns) (version : ItemRow) (p : PutsColumns c at cs) → length cs.uuid ≡ 16 → (strings : RowStrings)
    → cs.body ≡ Some (row.Sealed strings) → strings.content ≡ version.content → strings.enc ≡ version.enc → cs.latest ≡ None → cs.posted ≡ None → IsSmall c
small_put c at cs version p uuid strings body_is content_is enc_is latest_is posted_is =
    let l : LocalItem = p.local in
    let is = p.columns_are in
    let long : length l.uuid ≡ 16 = ap (λ (z : Columns). length z.uuid) is ∙ uuid in
    let kind = (lengths 1 255 l.kind l.kind_fits).1 in
    let content : length strings.content ≡ length version.content = ap length content_is in
    let enc : length strings.enc ≡ length version.enc = ap length enc_is in
    let content_fits = (lengths 0 1048576 version.content version.content_fits).1 in
    let enc_fits = (lengths 0 1048576 version.enc version.enc_fits).1 in
    let stands = length-sealed l.body strings (ap (λ (z : Columns). z.body) is ∙ body_is) in
    let latest = length-none l.latest (ap (λ (z : Columns). z.latest) is ∙ latest_is) in
    let posted = length-none l.posted (ap (λ (z : Columns). z.posted) is ∙ posted_is) in
    let cells = length-local l in
    let whole = length-put (key.Local at) (value.Local l) in
    record {
      few = subst (λ (e : Entry). length (entry_bytes e) ≤ 2100000) (sym (entry_is c (key.Local at) (value.Local l) p.puts)) (omega arith);
    }

-- ---- the device's own row

pub owner_small : (c : Change) (cs : OwnerColumns) (p : PutsOwner c cs) → length cs.account ≡ 16 → length (entry_bytes (entry_of c)) ≤ 67200000
owner_small c cs p account =
    let o : OwnerRow = p.owner in
    let long : length o.account ≡ 16 = ap (λ (z : OwnerColumns). length z.account) p.columns_are ∙ account in
    let identifier = (lengths 1 254 o.identifier o.identifier_fits).1 in
    let token = token_length o in
    let sync = (lengths 0 33554432 o.sync_token o.sync_token_fits).1 in
    let cursor = (lengths 0 33554432 o.cursor_token o.cursor_token_fits).1 in
    let cells = length-owner o in
    let whole = length-put key.Owner (value.Owner o) in
    subst (λ (e : Entry). length (entry_bytes e) ≤ 67200000) (sym (entry_is c key.Owner (value.Owner o) p.puts_it)) (omega arith)
  where
    token_length : (o : OwnerRow) → length o.token ≤ 1024
    token_length o = (lengths 1 1024 o.token (and_parts _ _ o.token_fits).0).1

    length-owner : (o : OwnerRow) → length (cells_bytes (value_cells (value.Owner o)))
        ≡ (4 + length o.identifier) + length o.account + (4 + length o.token) + (4 + length o.sync_token) + (4 + length o.cursor_token) + 8
    length-owner o =
        let a = length-counted o.identifier in
        let b = length-counted o.token in
        let c = length-counted o.sync_token in
        let d = length-counted o.cursor_token in
        simp (length-append) (omega arith)

-- ---- all changes

small_all : (changes : List Change) → All IsSmall changes → length (spelled changes) ≤ length changes * 2100000
small_all [] all = omega arith
small_all (c ∷ cs) all =
    let one = (All-head IsSmall c cs all).few in
    let others = small_all cs (All-tail IsSmall c cs all) in
    let parts : spelled (c ∷ cs) ≡ entry_bytes (entry_of c) ++ spelled cs = flat_map-cons entry_bytes (entry_of c) (entries_of cs) in
    let size = ap length parts ∙ length-append (entry_bytes (entry_of c)) (spelled cs) in
    omega arith

spelled_more : (changes : List Change) (c : Change) → length (spelled (changes ++ c ∷ [])) ≡ length (spelled changes) + length (entry_bytes (entry_of c))
spelled_more [] c =
    let parts : spelled (c ∷ []) ≡ entry_bytes (entry_of c) ++ spelled [] = flat_map-cons entry_bytes (entry_of c) (entries_of []) in
    let size = ap length parts ∙ length-append (entry_bytes (entry_of c)) (spelled []) in
    omega arith
spelled_more (d ∷ changes) c =
    let rest = spelled_more changes c in
    let parts : spelled (d ∷ changes) ≡ entry_bytes (entry_of d) ++ spelled changes = flat_map-cons entry_bytes (entry_of d) (entries_of changes) in
    let more : spelled (d ∷ (changes ++ c ∷ [])) ≡ entry_bytes (entry_of d) ++ spelled (changes ++ c ∷ []) =
    flat_map-cons entry_bytes (entry_of d) (entries_of (changes ++ c ∷ [])) in
    let before = ap length parts ∙ length-append (entry_bytes (entry_of d)) (spelled changes) in
    let after = ap length more ∙ length-append (entry_bytes (entry_of d)) (spelled (changes ++ c ∷ [])) in
    omega arith

-- those of a page, and then the device's own row
pub page_fits : (changes : List Change) (c : Change) → All IsSmall changes → length changes ≤ 150 → length (entry_bytes (entry_of c)) ≤ 67200000
    → length (spelled (changes ++ c ∷ [])) ≤ 2 ^ 30
page_fits changes c all few own =
    let size = small_all changes all in
    let whole = spelled_more changes c in
    omega arith
