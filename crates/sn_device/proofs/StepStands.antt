-- What holds of the columns of each item holds of them after each step of a device that has an account.
use Rattle.std.proofs.Common.{◌≡◌, ◌≢◌, ◌⊎◌, ℕ, suc, List, [], ◌∷◌, ◌++◌, All, Option, Some, None, get_or, map, take, refl, sym, ap, ◌∙◌, subst, inl, inr, ⊎_elim, arith}
use Rattle.std.proofs.lemmas.List.{append-nil}
use Rattle.std.proofs.lemmas.List.Elements.{All-append, All-cons, All-head, All-map, All-nil, All-tail}
use Rattle.std.proofs.lemmas.Option.{slice_get-get_or}
use Rattle.std.specs.List.{AllZip}
use Rattle.std.specs.Prelude.{IsSome}
use Rattle.rand_chacha.specs.ChaCha.{ChaCha}
use Rattle.sn_conflict.specs.Checks.{IsConflict, IsRetrieved, IsSaved, Passes}
use Rattle.sn_conflict.specs.Lists.{AllRight}
use Rattle.sn_items.specs.Items.{OpensItem}
use Rattle.sn_rows.specs.Kinds.{key_kind}
use Rattle.sn_rows.specs.Table.{Rows, key_of, rows_after}
use Rattle.sn_rows.specs.declared.body.RowBody.TheVariants as row
use Rattle.sn_rows.specs.declared.change.Change.{Change}
use Rattle.sn_rows.specs.declared.device_rows.LocalItem.{LocalItem}
use Rattle.sn_rows.specs.declared.device_rows.OwnerRow.{OwnerRow}
use Rattle.sn_rows.specs.declared.key.Key.TheVariants as key
use Rattle.sn_sets.specs.Sets.{sealed_of}
use Rattle.sn_sets.specs.declared.sets.Sets.{Sets}
use Rattle.sn_string.specs.declared.params.KeySet.{KeySet}
use Rattle.sn_sync.specs.declared.answer.Conflict.{Conflict}
use Rattle.sn_sync.specs.declared.item.Item.{Item}
use Rattle.sn_device.specs.Laws.{IsChecked}
use Rattle.sn_device.specs.Sending.{Posts, PutsColumns, as_posted}
use Rattle.sn_device.specs.States.{Bytes, Columns, HasLocal, HasOwner, columns, owner_columns}
use Rattle.sn_device.specs.Steps.{Applies, Deletes, Edits, PutsNew, Renews, Retires, drafted, start, with_next, with_token, with_tokens}
use Rattle.sn_device.specs.Taking.{Progress, TakesAll, Told, is_conflict, is_retrieved, is_saved, new_columns, told_by}
use Rattle.sn_device.proofs.Frames.{Parts, RetiresOlder, beside, ends_none, ends_put}
use Rattle.sn_device.proofs.Leading.{IsOfItems, Leads, lead_all, one_of_items}
use Rattle.sn_device.proofs.Standing.{IsKept, Stand, looked, put_stands, remove_stands, told_stands}

-- ---- a session token

abbrev pub renew_parts : (rows : Rows) (token : Bytes) (changes : List Change) → Renews rows token changes → Parts rows changes
renew_parts rows token changes r = record {
  owner = r.owner;
  owned = r.owned;
  items = [];
  of_items = All-nil IsOfItems;
  others = r.change ∷ [];
  next = r.owner.next;
  ends = ends_put rows r.owner r.change (with_token token (owner_columns r.owner)) [] r.renewed refl (inl refl);
  changes_are = r.changes_are;
}

-- ---- the user's changes

abbrev pub put_parts : (rows : Rows) (words left : ChaCha) (uuid kind text : Bytes) (changes : List Change) → PutsNew rows words uuid kind text changes left
    → Parts rows changes
put_parts rows words left uuid kind text changes s = record {
  owner = s.owner;
  owned = s.holds.owned;
  items = s.item ∷ [];
  of_items = one_of_items s.item s.owner.next s.item_is.puts.key_is;
  others = s.counted ∷ [];
  next = suc s.owner.next;
  ends = ends_put (rows_after rows (s.item ∷ [])) s.owner s.counted (with_next (suc s.owner.next) (owner_columns s.owner)) [] s.counted_is refl (inl refl);
  changes_are = s.changes_are;
}

pub new_stands : (P : Columns → Type 0) (rows : Rows) (words left : ChaCha) (uuid kind text : Bytes) (changes : List Change)
    → (s : PutsNew rows words uuid kind text changes left) → IsKept P s.sets rows → Stand P s.owner.next rows
    → Stand P (suc s.owner.next) (rows_after rows (s.item ∷ []))
new_stands P rows words left uuid kind text changes s kept stand =
    put_stands P s.owner.next (suc s.owner.next) rows s.item s.owner.next (new_columns uuid kind s.strings) s.item_is (omega arith) (record {
      below = omega arith;
      alone = λ n l found same. absurd (s.fresh.fresh n l (found, same));
      has = kept.new uuid kind text s.strings s.fresh.fresh s.seals.opens;
    }) stand

-- changes of items leave the device's own row
pub own_stays : (rows : Rows) (owner : OwnerRow) (changes : List Change) → HasOwner rows owner → All IsOfItems changes → HasOwner (rows_after rows changes) owner
own_stays rows owner changes owned of = beside rows changes key.Owner of (λ e. cc) ∙ owned

-- changes of items alone
abbrev item_parts : (rows : Rows) (owner : OwnerRow) (changes : List Change) → HasOwner rows owner → All IsOfItems changes → Parts rows changes
item_parts rows owner changes owned of = record {
  owner = owner;
  owned = owned;
  items = changes;
  of_items = of;
  others = [];
  next = owner.next;
  ends = ends_none (rows_after rows changes) owner (own_stays rows owner changes owned of);
  changes_are = sym (append-nil changes);
}

-- one change of an item's row
abbrev one_item_parts : (rows : Rows) (owner : OwnerRow) (c : Change) (number : ℕ) (changes : List Change) → HasOwner rows owner → key_of c ≡ key.Local number
    → changes ≡ c ∷ [] → Parts rows changes
one_item_parts rows owner c number changes owned named is =
    item_parts rows owner changes owned (subst (All IsOfItems) (sym is) (one_of_items c number named))

abbrev pub edit_parts : (rows : Rows) (words left : ChaCha) (uuid text : Bytes) (changes : List Change) → Edits rows words uuid text changes left
    → Parts rows changes
edit_parts rows words left uuid text changes s =
    one_item_parts rows s.owner s.change s.number changes s.holds.owned s.change_is.puts.key_is s.changes_are

-- the row of this number has other columns, of the same uuid
pub redone_stands : (P : Columns → Type 0) (next : ℕ) (rows : Rows) (c : Change) (number : ℕ) (local : LocalItem) (cs : Columns) → HasLocal rows number local
    → PutsColumns c number cs → cs.uuid ≡ local.uuid → P cs → Stand P next rows → Stand P next (rows_after rows (c ∷ []))
redone_stands P next rows c number local cs found put named has stand =
    put_stands P next next rows c number cs put (omega arith) (record {
      below = stand.numbered number local found;
      alone = λ n l other same. stand.apart n number l local other found (same ∙ named);
      has = has;
    }) stand

pub edit_stands : (P : Columns → Type 0) (rows : Rows) (words left : ChaCha) (uuid text : Bytes) (changes : List Change)
    → (s : Edits rows words uuid text changes left)
    → ((cs : Columns) → cs.latest ≢ Some row.Deleted → OpensItem (sealed_of s.strings) cs.uuid s.sets.present text → P cs
    → P (drafted (Some (row.Sealed s.strings)) cs))
    → Stand P s.owner.next rows → Stand P s.owner.next (rows_after rows changes)
edit_stands P rows words left uuid text changes s so stand =
    let opens : OpensItem (sealed_of s.strings) s.local.uuid s.sets.present text =
    subst (λ (u : Bytes). OpensItem (sealed_of s.strings) u s.sets.present text) (sym s.stands.1) s.seals.opens in
    subst (λ (cs : List Change). Stand P s.owner.next (rows_after rows cs)) (sym s.changes_are)
    (redone_stands P s.owner.next rows s.change s.number s.local (drafted (Some (row.Sealed s.strings)) (columns s.local)) s.stands.0 s.change_is refl
    (so (columns s.local) s.undeleted opens (stand.items s.number s.local s.stands.0)) stand)

-- ---- posting

-- each row is a former one as it was, or posted
abbrev pub ArePosted : Rows → Rows → Type 0
ArePosted rows r = (n : ℕ) (l : LocalItem) → HasLocal r n l → (old : LocalItem) × HasLocal rows n old
    × ((columns l ≡ columns old) ⊎ (IsSome old.latest × (columns l ≡ as_posted (columns old))))

posted_one : (rows r : Rows) (at : ℕ) (c : Change) → ArePosted rows r → (p : Posts rows at c) → (n : ℕ) (l : LocalItem)
    → (((n ≡ at) × (columns l ≡ as_posted (columns p.local))) ⊎ HasLocal r n l)
    → (old : LocalItem) × HasLocal rows n old × ((columns l ≡ columns old) ⊎ (IsSome old.latest × (columns l ≡ as_posted (columns old))))
posted_one rows r at c are p n l (inl (here, is)) =
    (p.local, subst (λ (k : ℕ). HasLocal rows k p.local) (sym here) p.stands, inr (p.unsent.0, is))
posted_one rows r at c are p n l (inr found) = are n l found

pub posted_all : (rows r : Rows) (numbers : List ℕ) (changes : List Change) → ArePosted rows r → AllZip (Posts rows) numbers changes
    → ArePosted rows (rows_after r changes)
posted_all rows r [] [] are all = are
posted_all rows r [] (c ∷ changes) are all = absurd all
posted_all rows r (at ∷ numbers) [] are all = absurd all
posted_all rows r (at ∷ numbers) (c ∷ changes) are all =
    let p : Posts rows at c = all.0 in
    posted_all rows (rows_after r (c ∷ [])) numbers changes
    (λ n l found. posted_one rows r at c are p n l (looked r c at (as_posted (columns p.local)) p.puts n l found)) all.1

posted_uuid : (l old : LocalItem) → ((columns l ≡ columns old) ⊎ (IsSome old.latest × (columns l ≡ as_posted (columns old)))) → l.uuid ≡ old.uuid
posted_uuid l old (inl same) = ap (λ (x : Columns). x.uuid) same
posted_uuid l old (inr (some, is)) = ap (λ (x : Columns). x.uuid) is

posted_has : (P : Columns → Type 0) (l old : LocalItem) → ((cs : Columns) → IsSome cs.latest → P cs → P (as_posted cs)) → P (columns old)
    → ((columns l ≡ columns old) ⊎ (IsSome old.latest × (columns l ≡ as_posted (columns old)))) → P (columns l)
posted_has P l old so has (inl same) = subst P (sym same) has
posted_has P l old so has (inr (some, is)) = subst P (sym is) (so (columns old) some has)

pub post_stands : (P : Columns → Type 0) (next : ℕ) (rows : Rows) (numbers : List ℕ) (changes : List Change)
    → ((cs : Columns) → IsSome cs.latest → P cs → P (as_posted cs)) → AllZip (Posts rows) numbers changes → Stand P next rows
    → Stand P next (rows_after rows changes)
post_stands P next rows numbers changes so all stand =
    let are = posted_all rows rows numbers changes (λ n l found. (l, found, inl refl)) all in
    record {
      numbered = λ n l found. (let old = are n l found in stand.numbered n old.0 old.1);
      apart = λ n m l k found too same.
          (let old = are n l found in
          let other = are m k too in
          stand.apart n m old.0 other.0 old.1 other.1 (sym (posted_uuid l old.0 old.2) ∙ same ∙ posted_uuid k other.0 other.2));
      items = λ n l found. (let old = are n l found in posted_has P l old.0 so (stand.items n old.0 old.1) old.2);
    }

pub posts_items : (rows : Rows) (numbers : List ℕ) (changes : List Change) → AllZip (Posts rows) numbers changes → All IsOfItems changes
posts_items rows [] [] all = All-nil IsOfItems
posts_items rows [] (c ∷ changes) all = absurd all
posts_items rows (at ∷ numbers) [] all = absurd all
posts_items rows (at ∷ numbers) (c ∷ changes) all =
    let p : Posts rows at c = all.0 in
    All-cons IsOfItems c changes (ap key_kind p.puts.puts.key_is) (posts_items rows numbers changes all.1)

abbrev pub post_parts : (rows : Rows) (owner : OwnerRow) (numbers : List ℕ) (changes : List Change) → HasOwner rows owner → AllZip (Posts rows) numbers changes
    → Parts rows changes
post_parts rows owner numbers changes owned all = item_parts rows owner changes owned (posts_items rows numbers changes all)

-- ---- deletion

pub deleted_key : (rows : Rows) (uuid : Bytes) (changes : List Change) → (r : Deletes rows uuid changes) → key_of r.change ≡ key.Local r.number
deleted_key rows uuid changes r = ⊎_elim (λ h. h.1.key_is) (λ h. h.1.puts.key_is) r.change_is

abbrev pub delete_parts : (rows : Rows) (owner : OwnerRow) (uuid : Bytes) (changes : List Change) → HasOwner rows owner → Deletes rows uuid changes
    → Parts rows changes
delete_parts rows owner uuid changes owned s =
    one_item_parts rows owner s.change s.number changes owned (deleted_key rows uuid changes s) s.changes_are

pub delete_stands : (P : Columns → Type 0) (next : ℕ) (rows : Rows) (uuid : Bytes) (changes : List Change) → (s : Deletes rows uuid changes)
    → ((cs : Columns) → P cs → P (drafted (Some row.Deleted) cs)) → Stand P next rows → Stand P next (rows_after rows changes)
delete_stands P next rows uuid changes s so stand =
    subst (λ (cs : List Change). Stand P next (rows_after rows cs)) (sym s.changes_are) (elim s.change_is [
      | inl gone ↦ remove_stands P next rows s.change s.number gone.1 stand
      | inr put ↦ redone_stands P next rows s.change s.number s.local (drafted (Some row.Deleted) (columns s.local)) s.stands.0 put.1 refl
          (so (columns s.local) (stand.items s.number s.local s.stands.0)) stand
    ])

-- ---- an answer

all_right : {X : Type 0} (Right : List X → X → Type 0) (Q : X → Type 0) (xs : List X) → ((before : List X) (x : X) → Right before x → Q x)
    → AllRight Right xs → All Q xs
all_right Right Q xs so right = λ k d less. so (take k xs) (get_or xs k d) (right k (get_or xs k d) less (slice_get-get_or xs k d less))

-- the strings of all that is told have been checked
pub all_checked : (sent saved : List Item) (conflicts : List Conflict) (retrieved : List Item) (cursor : Option Bytes)
    → Passes sent saved conflicts retrieved cursor → All IsChecked (told_by saved conflicts retrieved)
all_checked sent saved conflicts retrieved cursor passes =
    let lists = passes.lists in
    All-append IsChecked (map is_saved saved) (map is_conflict conflicts ++ map is_retrieved retrieved)
    (All-map IsChecked is_saved saved
    (all_right (IsSaved sent) (λ i. IsChecked (is_saved i)) saved (λ before i is. is.strings) lists.named.saved_are))
    (All-append IsChecked (map is_conflict conflicts) (map is_retrieved retrieved)
    (All-map IsChecked is_conflict conflicts
    (all_right (IsConflict sent saved) (λ k. IsChecked (is_conflict k)) conflicts (λ before k is. is.strings) lists.named.conflicts_are))
    (All-map IsChecked is_retrieved retrieved
    (all_right IsRetrieved (λ i. IsChecked (is_retrieved i)) retrieved (λ before i is. is.strings) lists.retrieved_are)))

pub all_stands : (P : Columns → Type 0) (sets : Sets) (saved : List Item) (p : Progress) (ts : List Told) (q : Progress)
    → ((r : Rows) → IsKept P sets r) → All IsChecked ts → Stand P p.next p.rows → TakesAll sets saved p ts q → Stand P q.next q.rows
all_stands P sets saved p [] q kept checked stand e = subst (λ (z : Progress). Stand P z.next z.rows) (sym e) stand
all_stands P sets saved p (t ∷ ts) q kept checked stand (r, takes, later) =
    all_stands P sets saved r ts q kept (All-tail IsChecked t ts checked)
    (told_stands P sets saved p r t (kept p.rows) (All-head IsChecked t ts checked) stand takes) later

pub retires_older : (rows : Rows) (cursor : Option Bytes) (older : Option KeySet) (changes : List Change) → Retires rows cursor older changes
    → RetiresOlder changes
retires_older rows cursor None changes e = inl e
retires_older rows cursor (Some set) changes (inl (may, gone)) = inr gone
retires_older rows cursor (Some set) changes (inr (not, e)) = inl e

module _ (rows : Rows) (words left : ChaCha) (sent : List Item) (conflicts : List Conflict) (cursor : Option Bytes) (retrieved saved : List Item)
    (token : Bytes) (changes : List Change) (s : Applies rows words sent conflicts cursor retrieved saved token changes left) where
  pub applied_leads : Leads rows s.owner.next s.end
  applied_leads =
      lead_all rows s.owner.next s.sets saved (start rows s.owner words) (told_by saved conflicts retrieved) s.end s.taken
      (record { rows_are = refl; of_items = All-nil IsOfItems; grown = omega arith })

  abbrev pub apply_parts : Parts rows changes
  apply_parts =
      let leads = applied_leads in
      record {
        owner = s.owner;
        owned = s.holds.owned;
        items = s.end.changes;
        of_items = leads.of_items;
        others = s.counted ∷ s.retired;
        next = s.end.next;
        ends = ends_put (rows_after rows s.end.changes) s.owner s.counted (with_tokens s.end.next token cursor (owner_columns s.owner)) s.retired s.counted_is refl
            (retires_older s.end.rows cursor s.sets.older s.retired s.retires);
        changes_are = s.changes_are;
      }

  pub apply_stands : (P : Columns → Type 0) → ((r : Rows) → IsKept P s.sets r) → Stand P s.owner.next rows
      → Stand P s.end.next (rows_after rows s.end.changes)
  apply_stands P kept stand =
      subst (Stand P s.end.next) applied_leads.rows_are
      (all_stands P s.sets saved (start rows s.owner words) (told_by saved conflicts retrieved) s.end kept
      (all_checked sent saved conflicts retrieved cursor s.passes) stand s.taken)
