-- Items keep their numbers and uuids apart, and what holds of the columns of each, whatever versions an answer has.
use Rattle.std.proofs.Common.{◌≡◌, ◌⊎◌, ◌<◌, ◌≤◌, ℕ, suc, Bool, true, false, List, [], ◌∷◌, Option, Some, None, refl, sym, ap, ◌∙◌, subst, inl, inr, arith}
use Rattle.std.proofs.lemmas.Bool.{cases_Bool}
use Rattle.rand_chacha.specs.ChaCha.{ChaCha}
use Rattle.sn_conflict.specs.Checks.{AreStringsOf}
use Rattle.sn_conflict.specs.Meetings.{HasContentOf, MeetsAs, PostedHasContent}
use Rattle.sn_sync.specs.Versions.{item_of}
use Rattle.sn_conflict.specs.declared.meeting.Meeting.{Meeting}
use Rattle.sn_conflict.specs.declared.meeting.Meeting.TheVariants as meeting
use Rattle.sn_items.specs.Items.{OpensItem}
use Rattle.sn_rows.specs.Facts.{keys_compare, put_elsewhere, put_here, put_or_not, removed_elsewhere, removed_here}
use Rattle.sn_rows.specs.Table.{Removes, Rows, rows_after, same_key}
use Rattle.sn_rows.specs.declared.body.RowBody.{RowBody}
use Rattle.sn_rows.specs.declared.body.RowBody.TheVariants as row
use Rattle.sn_rows.specs.declared.body.RowStrings.{RowStrings}
use Rattle.sn_rows.specs.declared.change.Change.{Change}
use Rattle.sn_rows.specs.declared.device_rows.LocalItem.{LocalItem}
use Rattle.sn_rows.specs.declared.key.Key.TheVariants as key
use Rattle.sn_rows.specs.declared.value.Value.TheVariants as value
use Rattle.sn_sets.specs.Sets.{sealed_of}
use Rattle.sn_sets.specs.declared.sets.Sets.{Sets}
use Rattle.sn_sync.specs.declared.answer.Conflict.{Conflict}
use Rattle.sn_sync.specs.declared.answer.Conflict.TheVariants as conflict
use Rattle.sn_sync.specs.declared.item.Body.{Body}
use Rattle.sn_sync.specs.declared.item.Body.TheVariants as body
use Rattle.sn_sync.specs.declared.item.Item.{Item}
use Rattle.sn_device.specs.Laws.{IsChecked}
use Rattle.sn_device.specs.Sending.{PutsColumns}
use Rattle.sn_device.specs.States.{Bytes, Columns, HasItem, HasLocal, IsFree, columns}
use Rattle.sn_device.specs.Taking.{Copies, MakesRow, Meets, Progress, Renames, StandsOn, Takes, TakesBody, TakesConflict, TakesOwn, TakesServer, TakesUnsaved, Told, changed, is_conflict, is_retrieved, is_saved, made, new_columns, unposted, with_words}
use Rattle.sn_device.proofs.Drafts.{new_number, same_row}

-- ---- what is found after one change

looked_at : (rows : Rows) (c : Change) (at : ℕ) (cs : Columns) → (put : PutsColumns c at cs) → (n : ℕ) (l : LocalItem)
    → HasLocal (rows_after rows (c ∷ [])) n l
    → ((key.Local at ≡ key.Local n) ⊎ (rows_after rows (c ∷ []) (key.Local n) ≡ rows (key.Local n)))
    → ((n ≡ at) × (columns l ≡ cs)) ⊎ HasLocal rows n l
looked_at rows c at cs put n l found (inl same) =
    let first = put_here rows c (key.Local at) (value.Local put.local) put.puts in
    let there : HasLocal (rows_after rows (c ∷ [])) n put.local = ap (rows_after rows (c ∷ [])) (sym same) ∙ first in
    let e : l ≡ put.local = same_row (rows_after rows (c ∷ [])) n l put.local found there in
    let m : n ≡ at = cc in
    inl (m, ap (λ (x : LocalItem). columns x) e ∙ put.columns_are)
looked_at rows c at cs put n l found (inr past) = inr (sym past ∙ found)

-- the row that was put, or a row from before
pub looked : (rows : Rows) (c : Change) (at : ℕ) (cs : Columns) → PutsColumns c at cs → (n : ℕ) (l : LocalItem) → HasLocal (rows_after rows (c ∷ [])) n l
    → ((n ≡ at) × (columns l ≡ cs)) ⊎ HasLocal rows n l
looked rows c at cs put n l found =
    looked_at rows c at cs put n l found (put_or_not rows c (key.Local at) (value.Local put.local) put.puts (key.Local n))

left_at : (rows : Rows) (c : Change) (at : ℕ) → Removes c (key.Local at) → (n : ℕ) (l : LocalItem) → HasLocal (rows_after rows (c ∷ [])) n l
    → ((same_key (key.Local at) (key.Local n) ≡ true) ⊎ (same_key (key.Local at) (key.Local n) ≡ false)) → HasLocal rows n l
left_at rows c at removes n l found (inl same) =
    let keys : key.Local at ≡ key.Local n = (keys_compare (key.Local at) (key.Local n)).0 same in
    let none : rows_after rows (c ∷ []) (key.Local n) ≡ None = ap (rows_after rows (c ∷ [])) (sym keys) ∙ removed_here rows c (key.Local at) removes in
    absurd cc
left_at rows c at removes n l found (inr apart) =
    sym (removed_elsewhere rows c (key.Local at) (key.Local n) removes (λ e. (let yes = (keys_compare (key.Local at) (key.Local n)).1 e in cc))) ∙ found

-- after a removal, a row from before
pub left_row : (rows : Rows) (c : Change) (at : ℕ) → Removes c (key.Local at) → (n : ℕ) (l : LocalItem) → HasLocal (rows_after rows (c ∷ [])) n l
    → HasLocal rows n l
left_row rows c at removes n l found = left_at rows c at removes n l found (cases_Bool (same_key (key.Local at) (key.Local n)))

-- ---- items, and what holds of the columns of each

-- numbered below this, of uuids that differ, and P holds of each
pub record Stand (P : Columns → Type 0) (next : ℕ) (rows : Rows) : Type 0 where
  pub numbered : (number : ℕ) (local : LocalItem) → HasLocal rows number local → number < next
  pub apart : (number other : ℕ) (local twin : LocalItem) → HasLocal rows number local → HasLocal rows other twin → local.uuid ≡ twin.uuid → number ≡ other
  pub items : (number : ℕ) (local : LocalItem) → HasLocal rows number local → P (columns local)

-- what an answer makes of these rows' columns keeps P
pub record IsKept (P : Columns → Type 0) (sets : Sets) (rows : Rows) : Type 0 where
  -- a row stands on a version, without a draft
  pub taken : (words left : ChaCha) (i : Item) (content enc : Bytes) (cs : Columns) → AreStringsOf i.uuid (body.Strings content enc)
      → StandsOn sets words i content enc None None cs left → P cs
  -- or with the draft that it had
  pub answered : (words left : ChaCha) (local : LocalItem) (i : Item) (content enc : Bytes) (cs : Columns) → AreStringsOf i.uuid (body.Strings content enc)
      → local.uuid ≡ i.uuid → local.kind ≡ i.kind → P (columns local) → StandsOn sets words i content enc local.latest None cs left → P cs
  pub new : (uuid kind text : Bytes) (strings : RowStrings) → IsFree rows uuid → OpensItem (sealed_of strings) uuid sets.present text
      → P (new_columns uuid kind strings)
  pub unsent : (cs : Columns) → P cs → P (unposted cs)

-- ---- a row that is put

-- one may stand under this number, and its uuid is no other row's
pub record MayStand (P : Columns → Type 0) (next : ℕ) (rows : Rows) (at : ℕ) (cs : Columns) : Type 0 where
  pub below : at < next
  pub alone : (n : ℕ) (l : LocalItem) → HasLocal rows n l → l.uuid ≡ cs.uuid → n ≡ at
  pub has : P cs

put_below : (P : Columns → Type 0) (old next : ℕ) (rows : Rows) (at : ℕ) (cs : Columns) (n : ℕ) (l : LocalItem) → MayStand P next rows at cs
    → old ≤ next → Stand P old rows → (((n ≡ at) × (columns l ≡ cs)) ⊎ HasLocal rows n l) → n < next
put_below P old next rows at cs n l may up stand (inl (e, is)) = subst (λ (k : ℕ). k < next) (sym e) may.below
put_below P old next rows at cs n l may up stand (inr found) = let less : n < old = stand.numbered n l found in omega (arith, less, up)

put_apart : (P : Columns → Type 0) (old next : ℕ) (rows : Rows) (at : ℕ) (cs : Columns) (n m : ℕ) (l k : LocalItem) → MayStand P next rows at cs
    → Stand P old rows → l.uuid ≡ k.uuid → (((n ≡ at) × (columns l ≡ cs)) ⊎ HasLocal rows n l) → (((m ≡ at) × (columns k ≡ cs)) ⊎ HasLocal rows m k)
    → n ≡ m
put_apart P old next rows at cs n m l k may stand same (inl (a, x)) (inl (b, y)) = a ∙ sym b
put_apart P old next rows at cs n m l k may stand same (inl (a, x)) (inr found) =
    a ∙ sym (may.alone m k found (sym same ∙ ap (λ (z : Columns). z.uuid) x))
put_apart P old next rows at cs n m l k may stand same (inr found) (inl (b, y)) =
    may.alone n l found (same ∙ ap (λ (z : Columns). z.uuid) y) ∙ sym b
put_apart P old next rows at cs n m l k may stand same (inr found) (inr too) = stand.apart n m l k found too same

put_has : (P : Columns → Type 0) (old next : ℕ) (rows : Rows) (at : ℕ) (cs : Columns) (n : ℕ) (l : LocalItem) → MayStand P next rows at cs
    → Stand P old rows → (((n ≡ at) × (columns l ≡ cs)) ⊎ HasLocal rows n l) → P (columns l)
put_has P old next rows at cs n l may stand (inl (e, is)) = subst P (sym is) may.has
put_has P old next rows at cs n l may stand (inr found) = stand.items n l found

pub put_stands : (P : Columns → Type 0) (old next : ℕ) (rows : Rows) (c : Change) (at : ℕ) (cs : Columns) → PutsColumns c at cs → old ≤ next
    → MayStand P next rows at cs → Stand P old rows → Stand P next (rows_after rows (c ∷ []))
put_stands P old next rows c at cs put up may stand = record {
  numbered = λ n l found. put_below P old next rows at cs n l may up stand (looked rows c at cs put n l found);
  apart = λ n m l k found too same.
      put_apart P old next rows at cs n m l k may stand same (looked rows c at cs put n l found) (looked rows c at cs put m k too);
  items = λ n l found. put_has P old next rows at cs n l may stand (looked rows c at cs put n l found);
}

pub remove_stands : (P : Columns → Type 0) (next : ℕ) (rows : Rows) (c : Change) (at : ℕ) → Removes c (key.Local at) → Stand P next rows
    → Stand P next (rows_after rows (c ∷ []))
remove_stands P next rows c at removes stand = record {
  numbered = λ n l found. stand.numbered n l (left_row rows c at removes n l found);
  apart = λ n m l k found too same. stand.apart n m l k (left_row rows c at removes n l found) (left_row rows c at removes m k too) same;
  items = λ n l found. stand.items n l (left_row rows c at removes n l found);
}

to_stand : (P : Columns → Type 0) (p q : Progress) → q ≡ p → Stand P p.next p.rows → Stand P q.next q.rows
to_stand P p q e stand = subst (λ (z : Progress). Stand P z.next z.rows) (sym e) stand

-- ---- a row on a version

take_stands : (P : Columns → Type 0) (sets : Sets) (p : Progress) (number : ℕ) (local : LocalItem) (i : Item) (b : Body) (latest : Option RowBody)
    (q : Progress) → HasItem p.rows i.uuid number local
    → ((words left : ChaCha) (content enc : Bytes) (cs : Columns) → b ≡ body.Strings content enc → StandsOn sets words i content enc latest None cs left → P cs)
    → Stand P p.next p.rows → TakesBody sets p number i b latest None q → Stand P q.next q.rows
take_stands P sets p number local i body.Deleted latest q item so stand (c, removes, e) =
    to_stand P (changed p c) q e (remove_stands P p.next p.rows c number removes stand)
take_stands P sets p number local i (body.Strings content enc) latest q item so stand (cs, left, c, on, put, e) =
    to_stand P (with_words (changed p c) left) q e
    (put_stands P p.next p.next p.rows c number cs put (omega arith) (record {
      below = stand.numbered number local item.0;
      alone = λ n l found same. stand.apart n number l local found item.0 (same ∙ on.uuid_is ∙ sym item.1);
      has = so p.words left content enc cs refl on;
    }) stand)

-- without a draft
clear_stands : (P : Columns → Type 0) (sets : Sets) (rows : Rows) (p : Progress) (number : ℕ) (local : LocalItem) (i : Item) (q : Progress)
    → IsKept P sets rows → HasItem p.rows i.uuid number local → AreStringsOf i.uuid i.body → Stand P p.next p.rows
    → TakesBody sets p number i i.body None None q → Stand P q.next q.rows
clear_stands P sets rows p number local i q kept item checked stand takes =
    take_stands P sets p number local i i.body None q item
    (λ words left content enc cs is on. kept.taken words left i content enc cs (subst (AreStringsOf i.uuid) is checked) on) stand takes

make_stands : (P : Columns → Type 0) (sets : Sets) (p : Progress) (i : Item) (b : Body) (q : Progress) → IsKept P sets p.rows → IsFree p.rows i.uuid
    → AreStringsOf i.uuid b → Stand P p.next p.rows → MakesRow sets p i b q → Stand P q.next q.rows
make_stands P sets p i body.Deleted q kept free checked stand e = to_stand P p q e stand
make_stands P sets p i (body.Strings content enc) q kept free checked stand (room, cs, left, c, on, put, e) =
    to_stand P (with_words (made p c) left) q e
    (put_stands P p.next (suc p.next) p.rows c p.next cs put (omega arith) (record {
      below = omega arith;
      alone = λ n l found same. absurd (free n l (found, same ∙ on.uuid_is));
      has = kept.taken p.words left i content enc cs checked on;
    }) stand)

-- ---- a new item

copy_stands : (P : Columns → Type 0) (sets : Sets) (p : Progress) (local : LocalItem) (r : Progress) → IsKept P sets p.rows → Copies sets p local r
    → Stand P p.next p.rows → Stand P r.next r.rows
copy_stands P sets p local r kept copy stand =
    to_stand P (with_words (made p copy.change) copy.left) r copy.gives
    (put_stands P p.next (suc p.next) p.rows copy.change p.next _ copy.puts (omega arith) (record {
      below = omega arith;
      alone = λ n l found same. absurd (copy.fresh.fresh n l (found, same));
      has = kept.new copy.uuid local.kind _ copy.copy copy.fresh.fresh copy.seals.opens;
    }) stand)

-- the row that forked is still there
past_copy_row : (sets : Sets) (p : Progress) (local : LocalItem) (r : Progress) (number : ℕ) → Copies sets p local r → number < p.next
    → HasLocal p.rows number local → HasLocal r.rows number local
past_copy_row sets p local r number copy below found =
    ap (λ (z : Progress). z.rows (key.Local number)) copy.gives
    ∙ put_elsewhere p.rows copy.change (key.Local p.next) (key.Local number) (value.Local copy.puts.local) copy.puts.puts (new_number number p.next below)
    ∙ found

-- ---- a meeting

-- an undeleted version of what was sent is of the row's type
one_kind : (sets : Sets) (local : LocalItem) (i : Item) (version : RowBody) (content enc : Bytes) → HasContentOf sets local version i (body.Strings content enc)
    → local.kind ≡ i.kind
one_kind sets local i row.Deleted content enc same = absurd same
one_kind sets local i (row.Sealed strings) content enc same = same.0

pub posted_kind : (sets : Sets) (local : LocalItem) (i : Item) (content enc : Bytes) → i.body ≡ body.Strings content enc → PostedHasContent sets local i
    → local.kind ≡ i.kind
posted_kind sets local i content enc is (version, sent, same) =
    one_kind sets local i version content enc (subst (λ (b : Body). HasContentOf sets local version i b) is same)

meet_stands : (P : Columns → Type 0) (sets : Sets) (p : Progress) (number : ℕ) (local : LocalItem) (i : Item) (saved : Bool) (how : Meeting) (q : Progress)
    → IsKept P sets p.rows → HasItem p.rows i.uuid number local → AreStringsOf i.uuid i.body → MeetsAs sets local i saved how → Stand P p.next p.rows
    → Meets sets p number local i how q → Stand P q.next q.rows
meet_stands P sets p number local i saved meeting.Same q kept item checked m stand e = to_stand P p q e stand
meet_stands P sets p number local i saved meeting.Take q kept item checked m stand takes =
    clear_stands P sets p.rows p number local i q kept item checked stand takes
meet_stands P sets p number local i saved (meeting.Own true) q kept item checked m stand takes =
    clear_stands P sets p.rows p number local i q kept item checked stand takes
meet_stands P sets p number local i saved (meeting.Own false) q kept item checked m stand takes =
    take_stands P sets p number local i i.body local.latest q item
    (λ words left content enc cs is on. kept.answered words left local i content enc cs (subst (AreStringsOf i.uuid) is checked) item.1
    (posted_kind sets local i content enc is m.same) (stand.items number local item.0) on) stand takes
meet_stands P sets p number local i saved meeting.GiveWay q kept item checked m stand takes =
    clear_stands P sets p.rows p number local i q kept item checked stand takes
meet_stands P sets p number local i saved meeting.Fork q kept item checked m stand (r, copy, takes) =
    let there = past_copy_row sets p local r number copy (stand.numbered number local item.0) item.0 in
    clear_stands P sets p.rows r number local i q kept (there, item.1) checked (copy_stands P sets p local r kept copy stand) takes

server_stands : (P : Columns → Type 0) (sets : Sets) (p : Progress) (i : Item) (saved : Bool) (q : Progress) → IsKept P sets p.rows
    → AreStringsOf i.uuid i.body → Stand P p.next p.rows → TakesServer sets p i saved q → Stand P q.next q.rows
server_stands P sets p i saved q kept checked stand (inl (number, local, how, item, m, does)) =
    meet_stands P sets p number local i saved how q kept item checked m stand does
server_stands P sets p i saved q kept checked stand (inr (free, makes)) = make_stands P sets p i i.body q kept free checked stand makes

-- ---- an item that isn't saved

rename_stands : (P : Columns → Type 0) (sets : Sets) (p : Progress) (number : ℕ) (local : LocalItem) (latest : Option RowBody) (q : Progress)
    → IsKept P sets p.rows → HasLocal p.rows number local → Stand P p.next p.rows → Renames sets p number local latest q → Stand P q.next q.rows
rename_stands P sets p number local None q kept found stand e = to_stand P p q e stand
rename_stands P sets p number local (Some row.Deleted) q kept found stand (c, removes, e) =
    to_stand P (changed p c) q e (remove_stands P p.next p.rows c number removes stand)
rename_stands P sets p number local (Some (row.Sealed strings)) q kept found stand (inl (closed, e)) = to_stand P p q e stand
rename_stands P sets p number local (Some (row.Sealed strings)) q kept found stand
    (inr (text, uuid, rest, again, left, c, opens, fresh, seals, put, e)) =
    to_stand P (with_words (changed p c) left) q e
    (put_stands P p.next p.next p.rows c number (new_columns uuid local.kind again) put (omega arith) (record {
      below = stand.numbered number local found;
      alone = λ n l other same. absurd (fresh.fresh n l (other, same));
      has = kept.new uuid local.kind text again fresh.fresh seals.opens;
    }) stand)

unsaved_stands : (P : Columns → Type 0) (sets : Sets) (p : Progress) (number : ℕ) (local : LocalItem) (k : Conflict) (q : Progress)
    → IsKept P sets p.rows → HasLocal p.rows number local → Stand P p.next p.rows → TakesUnsaved sets p number local k q → Stand P q.next q.rows
unsaved_stands P sets p number local (conflict.Sync server) q kept found stand m = absurd m
unsaved_stands P sets p number local (conflict.Uuid unsaved) q kept found stand m = rename_stands P sets p number local local.latest q kept found stand m
unsaved_stands P sets p number local (conflict.Content unsaved) q kept found stand (c, put, e) =
    to_stand P (changed p c) q e
    (put_stands P p.next p.next p.rows c number (unposted (columns local)) put (omega arith) (record {
      below = stand.numbered number local found;
      alone = λ n l other same. stand.apart n number l local other found same;
      has = kept.unsent (columns local) (stand.items number local found);
    }) stand)

own_stands : (P : Columns → Type 0) (sets : Sets) (p : Progress) (uuid : Bytes) (k : Conflict) (q : Progress) → IsKept P sets p.rows
    → Stand P p.next p.rows → TakesOwn sets p uuid k q → Stand P q.next q.rows
own_stands P sets p uuid k q kept stand (inl (number, local, item, does)) = unsaved_stands P sets p number local k q kept item.0 stand does
own_stands P sets p uuid k q kept stand (inr (free, e)) = to_stand P p q e stand

conflict_stands : (P : Columns → Type 0) (sets : Sets) (p : Progress) (k : Conflict) (q : Progress) → IsKept P sets p.rows
    → AreStringsOf (item_of k).uuid (item_of k).body → Stand P p.next p.rows → TakesConflict sets p k q → Stand P q.next q.rows
conflict_stands P sets p (conflict.Sync server) q kept checked stand m = server_stands P sets p server false q kept checked stand m
conflict_stands P sets p (conflict.Uuid unsaved) q kept checked stand m = own_stands P sets p unsaved.uuid (conflict.Uuid unsaved) q kept stand m
conflict_stands P sets p (conflict.Content unsaved) q kept checked stand m = own_stands P sets p unsaved.uuid (conflict.Content unsaved) q kept stand m

-- ---- one of all that an answer tells

pub told_stands : (P : Columns → Type 0) (sets : Sets) (saved : List Item) (p q : Progress) (t : Told) → IsKept P sets p.rows → IsChecked t
    → Stand P p.next p.rows → Takes sets saved p t q → Stand P q.next q.rows
told_stands P sets saved p q (is_saved i) kept checked stand m = server_stands P sets p i true q kept checked stand m
told_stands P sets saved p q (is_conflict k) kept checked stand m = conflict_stands P sets p k q kept checked stand m
told_stands P sets saved p q (is_retrieved i) kept checked stand (inl (again, e)) = to_stand P p q e stand
told_stands P sets saved p q (is_retrieved i) kept checked stand (inr (first, m)) = server_stands P sets p i false q kept checked stand m
