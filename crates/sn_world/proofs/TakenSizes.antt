-- How many bytes of changes there are of all that an answer tells, and that rows keep uuids of 16 bytes.
use Rattle.std.proofs.Common.{◌≡◌, ◌+◌, ◌*◌, ◌≤◌, ℕ, Bool, true, false, List, [], ◌∷◌, ◌++◌, length, map, Option, Some, None, refl, sym, ap, ◌∙◌, subst, inl, inr, arith, append_assoc}
use Rattle.std.proofs.lemmas.List.{append-nil}
use Rattle.rand_chacha.specs.ChaCha.{ChaCha}
use Rattle.sn_device.specs.Laws.{IsChecked}
use Rattle.sn_device.specs.Sending.{PutsColumns}
use Rattle.sn_device.specs.States.{Columns, columns}
use Rattle.sn_device.specs.Taking.{IsKeptAs, MakesRow, Meets, Progress, Renames, Takes, TakesAll, TakesBody, TakesConflict, TakesOwn, TakesServer, TakesUnsaved, Told, changed, is_conflict, is_retrieved, is_saved, new_columns, told_by, unposted}
use Rattle.sn_conflict.specs.Checks.{AreStringsOf, HasItsStrings}
use Rattle.sn_conflict.specs.declared.meeting.Meeting.{Meeting}
use Rattle.sn_conflict.specs.declared.meeting.Meeting.TheVariants as meeting
use Rattle.sn_items.specs.declared.sealed.Sealed.{Sealed}
use Rattle.sn_laws.specs.Each.{Each}
use Rattle.sn_laws.specs.Lookups.{Bytes}
use Rattle.sn_rows.specs.Facts.{row_after-append}
use Rattle.sn_rows.specs.Table.{Removes, Rows, row_after, rows_after}
use Rattle.sn_rows.specs.declared.body.RowBody.{RowBody}
use Rattle.sn_rows.specs.declared.body.RowBody.TheVariants as row
use Rattle.sn_rows.specs.declared.body.RowStrings.{RowStrings}
use Rattle.sn_rows.specs.declared.change.Change.{Change}
use Rattle.sn_rows.specs.declared.device_rows.LocalItem.{LocalItem}
use Rattle.sn_rows.specs.declared.key.Key.{Key}
use Rattle.sn_rows.specs.declared.key.Key.TheVariants as key
use Rattle.sn_sets.specs.Seals.{Seals}
use Rattle.sn_sets.specs.declared.sets.Sets.{Sets}
use Rattle.sn_string.specs.declared.params.KeySet.{KeySet}
use Rattle.sn_sync.specs.declared.answer.Conflict.{Conflict}
use Rattle.sn_sync.specs.declared.answer.Conflict.TheVariants as conflict
use Rattle.sn_sync.specs.declared.item.Body.{Body}
use Rattle.sn_sync.specs.declared.item.Body.TheVariants as body
use Rattle.sn_sync.specs.declared.item.Item.{Item}
use Rattle.sn_sync.specs.Fits.{AreBytes}
use Rattle.sn_world.proofs.AnswerPage.{weigh, weigh_all}
use Rattle.sn_world.proofs.Lists.{each_both}
use Rattle.sn_world.proofs.RowSizes.{PutsUuid, body_most, body_size, columns_size, put_size, removed_size, size_of, sizes_append, sizes_cons, sizes_of, strings_size, uuid_put, uuid_removed, uuids_after, uuids_same}
use Rattle.sn_world.specs.Fitting.{FitsUuids}

-- ---- what a version adds

-- these changes were added, of so many bytes at most, and of rows with uuids of 16 bytes
pub record Adds (p q : Progress) (most : ℕ) : Type 0 where
  pub made : List Change
  pub changes : q.changes ≡ p.changes ++ made
  pub rows : (k : Key) → q.rows k ≡ row_after (p.rows k) k made
  pub good : Each PutsUuid made
  pub size : sizes_of made ≤ most

pub uuids_then : (p q : Progress) (most : ℕ) → Adds p q most → FitsUuids p.rows → FitsUuids q.rows
uuids_then p q most a have = uuids_same (rows_after p.rows a.made) q.rows a.rows (uuids_after p.rows a.made a.good have)

adds_within : (p q : Progress) (few most : ℕ) → few ≤ most → Adds p q few → Adds p q most
adds_within p q few most less a =
    record { made = a.made; changes = a.changes; rows = a.rows; good = a.good; size = (let size = a.size in omega arith) }

adds_none : (p q : Progress) → q ≡ p → Adds p q 0
adds_none p q same = record {
  made = [];
  changes = ap (λ (z : Progress). z.changes) same ∙ sym (append-nil p.changes);
  rows = λ k. ap (λ (z : Progress). z.rows k) same;
  good = tt;
  size = (let none : sizes_of [] ≡ 0 = refl in omega arith);
}

adds_one : (p q : Progress) (c : Change) (most : ℕ) → q.rows ≡ rows_after p.rows (c ∷ []) → q.changes ≡ p.changes ++ c ∷ [] → PutsUuid c
    → sizes_of (c ∷ []) ≤ most → Adds p q most
adds_one p q c most rows changes good size = record {
  made = c ∷ [];
  changes = changes;
  rows = λ k. ap (λ (z : Rows). z k) rows;
  good = (good, tt);
  size = size;
}

adds_both : (p r q : Progress) (first later : ℕ) → Adds p r first → Adds r q later → Adds p q (first + later)
adds_both p r q first later a b = record {
  made = a.made ++ b.made;
  changes = b.changes ∙ ap (λ (xs : List Change). xs ++ b.made) a.changes ∙ append_assoc p.changes a.made b.made;
  rows = λ k. b.rows k ∙ ap (λ o. row_after o k b.made) (a.rows k) ∙ sym (row_after-append (p.rows k) k a.made b.made);
  good = each_both PutsUuid a.made b.made a.good b.good;
  size = (let whole = sizes_append a.made b.made in let x = a.size in let y = b.size in omega arith);
}

one_size : (c : Change) → sizes_of (c ∷ []) ≡ size_of c
one_size c = let whole = sizes_cons c [] in let none : sizes_of [] ≡ 0 = refl in omega arith

adds_put : (p q : Progress) (c : Change) (at : ℕ) (cs : Columns) → q.rows ≡ rows_after p.rows (c ∷ []) → q.changes ≡ p.changes ++ c ∷ []
    → PutsColumns c at cs → AreBytes 16 cs.uuid → Adds p q (columns_size cs)
adds_put p q c at cs rows changes puts uuid =
    let one = one_size c in
    let few = put_size c at cs puts uuid.0 in
    adds_one p q c (columns_size cs) rows changes (uuid_put c at cs puts uuid) (omega arith)

adds_removed : (p q : Progress) (c : Change) (at : ℕ) → q ≡ changed p c → Removes c (key.Local at) → Adds p q 100
adds_removed p q c at is gone =
    let one = one_size c in
    let few = removed_size c at gone in
    adds_one p q c 100 (ap (λ (z : Progress). z.rows) is) (ap (λ (z : Progress). z.changes) is) (uuid_removed c (key.Local at) gone) (omega arith)

-- ---- strings

-- strings are kept that are about as long as those that were given
abbrev pub KeepsWeight : Sets → Type 0
KeepsWeight sets = (words : ChaCha) (uuid content enc : Bytes) (strings : RowStrings) (stale : Bool) (left : ChaCha)
    → IsKeptAs sets words uuid (record { content = content; enc = enc }) strings stale left
    → body_size (Some (row.Sealed strings)) ≤ 20000 + length content + length enc

-- a device without an older set keeps a version's strings as they are given
pub kept_weight : (sets : Sets) → sets.older ≡ None → KeepsWeight sets
kept_weight sets none words uuid content enc strings stale left (inl (closed, same, fresh, left_is)) =
    let size = strings_size strings in
    let c : length strings.content ≡ length content = ap (λ (z : Sealed). length z.content) same in
    let e : length strings.enc ≡ length enc = ap (λ (z : Sealed). length z.enc) same in
    omega arith
kept_weight sets none words uuid content enc strings stale left (inr (text, opens, rewraps, again)) = absurd (let held = opens.held in cc)

-- what is sealed for an item names it by 16 bytes
pub sealed_uuid : (words : ChaCha) (set : KeySet) (uuid text : Bytes) (strings : RowStrings) (left : ChaCha) → Seals words set uuid text strings left
    → AreBytes 16 uuid
sealed_uuid words set uuid text strings left seals =
    let named = seals.opens.opens.authentic.names.uuid_is in
    (named.count, named.fit)

string_uuid : (uuid content enc : Bytes) → AreStringsOf uuid (body.Strings content enc) → AreBytes 16 uuid
string_uuid uuid content enc its = let named = its.0.1.1.uuid_is in (named.count, named.fit)

short_weight : (i : Item) → HasItsStrings i → weigh i.body ≤ 2097152
short_weight i its = at i.body its
  where
    at : (b : Body) → AreStringsOf i.uuid b → weigh b ≤ 2097152
    at body.Deleted own = omega arith
    at (body.Strings content enc) own = let c = own.0.0 in let e = own.1.0 in omega arith

new_size : (uuid kind : Bytes) (strings : RowStrings) → columns_size (new_columns uuid kind strings) ≤ 2114000
new_size uuid kind strings = let most = body_most (Some (row.Sealed strings)) in omega arith

-- ---- a version of the server's

module _ (sets : Sets) (weight : KeepsWeight sets) where
  -- a row takes it
  adds_body : (p q : Progress) (number : ℕ) (i : Item) (b : Body) (latest posted : Option RowBody) → AreBytes 16 i.uuid
      → TakesBody sets p number i b latest posted q → Adds p q (20500 + weigh b + body_size latest + body_size posted)
  adds_body p q number i body.Deleted latest posted uuid (c, gone, is) =
      adds_within p q 100 (20500 + 0 + body_size latest + body_size posted) (omega arith) (adds_removed p q c number is gone)
  adds_body p q number i (body.Strings content enc) latest posted uuid (cs, left, c, on, puts, is) =
      let body_is : body_size cs.body ≡ body_size (Some (row.Sealed on.strings)) = ap body_size on.body_is in
      let kept = weight p.words i.uuid content enc on.strings cs.stale left on.kept in
      let latest_is : body_size cs.latest ≡ body_size latest = ap body_size on.latest_is in
      let posted_is : body_size cs.posted ≡ body_size posted = ap body_size on.posted_is in
      adds_within p q (columns_size cs) (20500 + (length content + length enc) + body_size latest + body_size posted) (omega arith)
      (adds_put p q c number cs (ap (λ (z : Progress). z.rows) is) (ap (λ (z : Progress). z.changes) is) puts (subst (AreBytes 16) (sym on.uuid_is) uuid))

  -- it meets a row
  abbrev Met : Progress → Progress → Item → Type 0
  Met p q i = Adds p q (2136000 + weigh i.body)

  adds_meets : (p q : Progress) (number : ℕ) (local : LocalItem) (i : Item) (how : Meeting) → AreBytes 16 i.uuid → Meets sets p number local i how q
      → Met p q i
  adds_meets p q number local i meeting.Same uuid same = adds_within p q 0 (2136000 + weigh i.body) (omega arith) (adds_none p q same)
  adds_meets p q number local i meeting.Take uuid takes =
      adds_within p q (20500 + weigh i.body + 1 + 1) (2136000 + weigh i.body) (omega arith) (adds_body p q number i i.body None None uuid takes)
  adds_meets p q number local i (meeting.Own true) uuid takes =
      adds_within p q (20500 + weigh i.body + 1 + 1) (2136000 + weigh i.body) (omega arith) (adds_body p q number i i.body None None uuid takes)
  adds_meets p q number local i (meeting.Own false) uuid takes =
      let draft = body_most local.latest in
      adds_within p q (20500 + weigh i.body + body_size local.latest + 1) (2136000 + weigh i.body) (omega arith)
      (adds_body p q number i i.body local.latest None uuid takes)
  adds_meets p q number local i meeting.GiveWay uuid takes =
      adds_within p q (20500 + weigh i.body + 1 + 1) (2136000 + weigh i.body) (omega arith) (adds_body p q number i i.body None None uuid takes)
  adds_meets p q number local i meeting.Fork uuid (r, copies, takes) =
      let new : Columns = new_columns copies.uuid local.kind copies.copy in
      let few = new_size copies.uuid local.kind copies.copy in
      let copied : Adds p r (columns_size new) =
      adds_put p r copies.change p.next new (ap (λ (z : Progress). z.rows) copies.gives) (ap (λ (z : Progress). z.changes) copies.gives) copies.puts
      (sealed_uuid copies.rest sets.present copies.uuid _ copies.copy copies.left copies.seals) in
      adds_within p q (columns_size new + (20500 + weigh i.body + 1 + 1)) (2136000 + weigh i.body) (omega arith)
      (adds_both p r q (columns_size new) (20500 + weigh i.body + 1 + 1) copied (adds_body r q number i i.body None None uuid takes))

  -- it makes a row
  adds_row : (p q : Progress) (i : Item) (b : Body) → AreStringsOf i.uuid b → MakesRow sets p i b q → Adds p q (2136000 + weigh b)
  adds_row p q i body.Deleted its same = adds_within p q 0 (2136000 + 0) (omega arith) (adds_none p q same)
  adds_row p q i (body.Strings content enc) its (room, cs, left, c, on, puts, is) =
      let body_is : body_size cs.body ≡ body_size (Some (row.Sealed on.strings)) = ap body_size on.body_is in
      let kept = weight p.words i.uuid content enc on.strings cs.stale left on.kept in
      let latest_is : body_size cs.latest ≡ 1 = ap body_size on.latest_is in
      let posted_is : body_size cs.posted ≡ 1 = ap body_size on.posted_is in
      adds_within p q (columns_size cs) (2136000 + (length content + length enc)) (omega arith)
      (adds_put p q c p.next cs (ap (λ (z : Progress). z.rows) is) (ap (λ (z : Progress). z.changes) is) puts
      (subst (AreBytes 16) (sym on.uuid_is) (string_uuid i.uuid content enc its)))

  adds_server : (p q : Progress) (i : Item) (flag : Bool) → HasItsStrings i → FitsUuids p.rows → TakesServer sets p i flag q → Met p q i
  adds_server p q i flag its have (inl (number, local, how, stands, case, meets)) =
      adds_meets p q number local i how (subst (AreBytes 16) stands.1 (have number local stands.0)) meets
  adds_server p q i flag its have (inr (free, makes)) = adds_row p q i i.body its makes

  -- ---- what isn't saved

  adds_renames : (p q : Progress) (number : ℕ) (local : LocalItem) (latest : Option RowBody) → Renames sets p number local latest q → Adds p q 4240000
  adds_renames p q number local None same = adds_within p q 0 4240000 (omega arith) (adds_none p q same)
  adds_renames p q number local (Some row.Deleted) (c, gone, is) = adds_within p q 100 4240000 (omega arith) (adds_removed p q c number is gone)
  adds_renames p q number local (Some (row.Sealed strings)) (inl (closed, same)) = adds_within p q 0 4240000 (omega arith) (adds_none p q same)
  adds_renames p q number local (Some (row.Sealed strings)) (inr (text, uuid, rest, again, left, c, opens, fresh, seals, puts, is)) =
      let few = new_size uuid local.kind again in
      adds_within p q (columns_size (new_columns uuid local.kind again)) 4240000 (omega arith)
      (adds_put p q c number (new_columns uuid local.kind again) (ap (λ (z : Progress). z.rows) is) (ap (λ (z : Progress). z.changes) is) puts
      (sealed_uuid rest sets.present uuid text again left seals))

  adds_unsaved : (p q : Progress) (number : ℕ) (local : LocalItem) (c : Conflict) → AreBytes 16 local.uuid → TakesUnsaved sets p number local c q
      → Adds p q 4240000
  adds_unsaved p q number local (conflict.Sync server) uuid takes = absurd takes
  adds_unsaved p q number local (conflict.Uuid unsaved) uuid renames = adds_renames p q number local local.latest renames
  adds_unsaved p q number local (conflict.Content unsaved) uuid (c, puts, is) =
      let base = body_most local.body in
      let draft = body_most local.latest in
      adds_within p q (columns_size (unposted (columns local))) 4240000 (omega arith)
      (adds_put p q c number (unposted (columns local)) (ap (λ (z : Progress). z.rows) is) (ap (λ (z : Progress). z.changes) is) puts uuid)

  adds_own : (p q : Progress) (uuid : Bytes) (c : Conflict) → FitsUuids p.rows → TakesOwn sets p uuid c q → Adds p q 4240000
  adds_own p q uuid c have (inl (number, local, stands, takes)) = adds_unsaved p q number local c (have number local stands.0) takes
  adds_own p q uuid c have (inr (free, same)) = adds_within p q 0 4240000 (omega arith) (adds_none p q same)

  -- ---- all that an answer tells

  abbrev pub bound : Told → ℕ
  bound (is_saved i) = 4240000
  bound (is_conflict c) = 4240000
  bound (is_retrieved i) = 2136000 + weigh i.body

  adds_conflict : (p q : Progress) (c : Conflict) → IsChecked (is_conflict c) → FitsUuids p.rows → TakesConflict sets p c q → Adds p q 4240000
  adds_conflict p q (conflict.Sync i) its have takes =
      let short = short_weight i its in
      adds_within p q (2136000 + weigh i.body) 4240000 (omega arith) (adds_server p q i false its have takes)
  adds_conflict p q (conflict.Uuid i) its have takes = adds_own p q i.uuid (conflict.Uuid i) have takes
  adds_conflict p q (conflict.Content i) its have takes = adds_own p q i.uuid (conflict.Content i) have takes

  adds_told : (saved : List Item) (p q : Progress) (t : Told) → IsChecked t → FitsUuids p.rows → Takes sets saved p t q → Adds p q (bound t)
  adds_told saved p q (is_saved i) its have takes =
      let short = short_weight i its in
      adds_within p q (2136000 + weigh i.body) 4240000 (omega arith) (adds_server p q i true its have takes)
  adds_told saved p q (is_conflict c) its have takes = adds_conflict p q c its have takes
  adds_told saved p q (is_retrieved i) its have (inl (passed, same)) = adds_within p q 0 (2136000 + weigh i.body) (omega arith) (adds_none p q same)
  adds_told saved p q (is_retrieved i) its have (inr (other, takes)) = adds_server p q i false its have takes

  abbrev pub bounds : List Told → ℕ
  bounds [] = 0
  bounds (t ∷ ts) = bound t + bounds ts

  pub adds_all : (saved : List Item) (p q : Progress) (ts : List Told) → Each IsChecked ts → FitsUuids p.rows → TakesAll sets saved p ts q
      → Adds p q (bounds ts)
  adds_all saved p q [] its have same = adds_none p q same
  adds_all saved p q (t ∷ ts) its have (r, first, rest) =
      let one = adds_told saved p r t its.0 have first in
      adds_both p r q (bound t) (bounds ts) one (adds_all saved r q ts its.1 (uuids_then p r (bound t) one have) rest)

  -- ---- and of a whole answer

  bounds_append : (xs ys : List Told) → bounds (xs ++ ys) ≡ bounds xs + bounds ys
  bounds_append [] ys = omega arith
  bounds_append (x ∷ xs) ys = let rest = bounds_append xs ys in omega arith

  bounds_saved : (saved : List Item) → bounds (map is_saved saved) ≡ 4240000 * length saved
  bounds_saved [] = refl
  bounds_saved (i ∷ saved) = let rest = bounds_saved saved in omega arith

  bounds_conflicts : (conflicts : List Conflict) → bounds (map is_conflict conflicts) ≡ 4240000 * length conflicts
  bounds_conflicts [] = refl
  bounds_conflicts (c ∷ conflicts) = let rest = bounds_conflicts conflicts in omega arith

  bounds_retrieved : (retrieved : List Item) → bounds (map is_retrieved retrieved) ≡ 2136000 * length retrieved + weigh_all retrieved
  bounds_retrieved [] = refl
  bounds_retrieved (i ∷ retrieved) = let rest = bounds_retrieved retrieved in omega arith

  pub bounds_told : (saved : List Item) (conflicts : List Conflict) (retrieved : List Item) → length saved + length conflicts ≤ 150
      → length retrieved ≤ 150 → weigh_all retrieved ≤ 4194304 → bounds (told_by saved conflicts retrieved) ≤ 961000000
  bounds_told saved conflicts retrieved few page weight =
      let a = bounds_append (map is_saved saved) (map is_conflict conflicts ++ map is_retrieved retrieved) in
      let b = bounds_append (map is_conflict conflicts) (map is_retrieved retrieved) in
      let c = bounds_saved saved in
      let d = bounds_conflicts conflicts in
      let e = bounds_retrieved retrieved in
      omega arith
