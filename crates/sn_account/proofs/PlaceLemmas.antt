-- Where items stand by their accounts and stamps, as changes come and go.
use Rattle.std.proofs.Common.{◌≡◌, ◌⊎◌, ◌<◌, ◌≤◌, ◌∙◌, ℕ, Bool, true, false, cond, List, Some, All, IsTrue, Less, Equal, Greater, refl, sym, ap, subst, inl, inr, arith}
use Rattle.std.specs.Prelude.{◌↔◌, ◌^◌, ◌-◌}
use Rattle.std.specs.BTreeMap.{is_at}
use Rattle.std.specs.BTreeMap.Range.{IsInRange, IsLeBy, IsLtBy, range_contains}
use Rattle.std.specs.BTreeSet.{BTreeSet, IsOrdered, contains, keys_between}
use Rattle.std.specs.Cmp.{nat_cmp_is}
use Rattle.std.specs.Cmp.Lexicographic.{slice_cmp}
use Rattle.std.specs.List.{Contains}
use Rattle.std.specs.List.Sorted.{IsStrictlySortedBy}
use Rattle.std.specs.Ordering.{is_eq, is_gt, nat_cmp, ordering_then}
use Rattle.std.specs.Range.Bound.{IsForward}
use Rattle.std.specs.declared.cmp.Ordering.{Ordering}
use Rattle.std.specs.declared.ops.Bound.{Bound}
use Rattle.std.specs.declared.ops.Bound.TheVariants.{Excluded, Included}
use Rattle.std.proofs.Math.Nat.{eq-or-lt_of_le}
use Rattle.std.proofs.lemmas.Bool.{cases_lt}
use Rattle.std.proofs.lemmas.Cmp.{tied_itself}
use Rattle.std.proofs.lemmas.List.Elements.{All-weaker}
use Rattle.std.proofs.lemmas.List.Kept.{IsStrictlySortedBy-filter}
use Rattle.std.proofs.lemmas.Map.Lookups.{CmpEqualImpliesEq, exact_bytes, exact_unsigned}
use Rattle.std.proofs.lemmas.Map.Views.{btree_set_contains_iff, range_contains-from_IsInRange}
use Rattle.sn_row_map.specs.RowMaps.{row_in}
use Rattle.sn_row_map.specs.declared.row_map.RowMap.{RowMap}
use Rattle.sn_rows.specs.Table.{Puts, row_after}
use Rattle.sn_rows.specs.declared.change.Change.{Change}
use Rattle.sn_rows.specs.declared.key.Key.{Key}
use Rattle.sn_rows.specs.declared.key.Key.TheVariants as key
use Rattle.sn_rows.specs.declared.server_rows.ItemRow.{ItemRow}
use Rattle.sn_rows.specs.declared.value.Value.{Value}
use Rattle.sn_rows.specs.declared.value.Value.TheVariants as value
use Rattle.sn_sync.specs.Stamps.{last_stamp}
use Rattle.sn_account.specs.Lookups.{Bytes}
use Rattle.sn_account.specs.Places.{HasPlace, IsAt, KeepsPlaces, PlacesChange, PlacesRows, place_cmp, place_of}
use Rattle.sn_account.specs.contracts.place.PlaceOrd.TheImpl.Laws.{total-law}
use Rattle.sn_account.specs.declared.place.Place.{Place}
use Rattle.sn_account.specs.declared.places.Places.{Places}
use Rattle.sn_account.proofs.PutsLemmas.{left_or_put}
use Rattle.sn_account.proofs.RisingLists.{in_filter}

-- ---- the order of places

first_less : (a b : ℕ) (o : Ordering) → a < b → ordering_then (nat_cmp a b) o ≡ Less
first_less a b o below = ap (λ (f : Ordering). ordering_then f o) (sym (nat_cmp_is a b Less below))

first_same : (a b : ℕ) (o : Ordering) → a ≡ b → ordering_then (nat_cmp a b) o ≡ o
first_same a b o same = ap (λ (f : Ordering). ordering_then f o) (sym (nat_cmp_is a b Equal same))

-- in one account the place with the smaller stamp comes first
pub stamp_first : (p q : Place) → p.account ≡ q.account → p.stamp < q.stamp → place_cmp p q ≡ Less
stamp_first p q own below =
    first_same p.account q.account (ordering_then (nat_cmp p.stamp q.stamp) (slice_cmp nat_cmp p.uuid q.uuid)) own
    ∙ first_less p.stamp q.stamp (slice_cmp nat_cmp p.uuid q.uuid) below

-- and of two places that are in order the stamp of the later isn't smaller
pub later_stamp : (p q : Place) → p.account ≡ q.account → place_cmp p q ≡ Less
    → (p.stamp < q.stamp) ⊎ ((p.stamp ≡ q.stamp) × (slice_cmp nat_cmp p.uuid q.uuid ≡ Less))
later_stamp p q own less =
    let uuids : Ordering = slice_cmp nat_cmp p.uuid q.uuid in
    let stamps : ordering_then (nat_cmp p.stamp q.stamp) uuids ≡ Less =
    sym (first_same p.account q.account (ordering_then (nat_cmp p.stamp q.stamp) uuids) own) ∙ less in
    elim (cases_lt p.stamp q.stamp) [
      | inl below ↦ inl below
      | inr above ↦ elim (eq-or-lt_of_le above) [
        | inl same ↦ inr (sym same, sym (first_same p.stamp q.stamp uuids (sym same)) ∙ stamps)
        | inr over ↦ (let e = nat_cmp_is p.stamp q.stamp Greater over in absurd cc)
      ]
    ]

then_equal : (a b : Ordering) → ordering_then a b ≡ Equal → (a ≡ Equal) × (b ≡ Equal)
then_equal Less b e = absurd cc
then_equal Equal b e = (refl, e)
then_equal Greater b e = absurd cc

abbrev pub place : ℕ → ℕ → Bytes → Place
place account stamp uuid = record { account = account; stamp = stamp; uuid = uuid }

-- places that compare equal are the same
pub exact_places : CmpEqualImpliesEq place_cmp
exact_places p q e =
    let parts = then_equal (nat_cmp p.account q.account) (ordering_then (nat_cmp p.stamp q.stamp) (slice_cmp nat_cmp p.uuid q.uuid)) e in
    let rest = then_equal (nat_cmp p.stamp q.stamp) (slice_cmp nat_cmp p.uuid q.uuid) parts.1 in
    let own : p.account ≡ q.account = exact_unsigned p.account q.account parts.0 in
    let stamps : p.stamp ≡ q.stamp = exact_unsigned p.stamp q.stamp rest.0 in
    let uuids : p.uuid ≡ q.uuid = exact_bytes p.uuid q.uuid rest.1 in
    ap (λ (a : ℕ). place a p.stamp p.uuid) own ∙ ap (λ (s : ℕ). place q.account s p.uuid) stamps ∙ ap (λ (u : Bytes). place q.account q.stamp u) uuids

-- ---- one place more, and one less

pub place_kept : (old new : Places) (place : Place)
    → ((q : Place) → contains place_cmp new.entries q ≡ cond (is_at (place_cmp place) q) true (contains place_cmp old.entries q)) → KeepsPlaces old new
place_kept old new place is q has = is q ∙ either (is_at (place_cmp place) q) (contains place_cmp old.entries q) has
  where
    either : (b c : Bool) → c ≡ true → cond b true c ≡ true
    either true c h = refl
    either false c h = h

equal_of : (o : Ordering) → is_eq o ≡ true → o ≡ Equal
equal_of Less e = absurd cc
equal_of Equal e = refl
equal_of Greater e = absurd cc

-- where the rows have no item there
pub rows_without : (old new : Places) (map : RowMap) (place : Place)
    → ((q : Place) → contains place_cmp new.entries q ≡ cond (is_at (place_cmp place) q) false (contains place_cmp old.entries q))
    → ¬ ((i : ItemRow) × (row_in map (key.Item place.uuid) ≡ Some (value.Item i)) × IsAt place i) → PlacesRows old map → PlacesRows new map
rows_without old new map place without none placed u i there =
    without (place_of u i) ∙ by_test (is_at (place_cmp place) (place_of u i)) refl
  where
    by_test : (b : Bool) → is_at (place_cmp place) (place_of u i) ≡ b → cond b false (contains place_cmp old.entries (place_of u i)) ≡ true
    by_test true e =
        let same : place ≡ place_of u i = exact_places place (place_of u i) (equal_of (place_cmp place (place_of u i)) e) in
        absurd (none (
          i,
          ap (λ (p : Place). row_in map (key.Item p.uuid)) same ∙ there,
          (ap (λ (p : Place). p.account) (sym same), ap (λ (p : Place). p.stamp) (sym same)),
        ))
    by_test false e = placed u i there

-- the item of a place has the account and the stamp that its row has
pub item_found : (map : RowMap) (place : Place) (row : ItemRow) (holds : Bool) → row_in map (key.Item place.uuid) ≡ Some (value.Item row)
    → IsTrue holds ↔ IsAt place row → IsTrue holds ↔ ((i : ItemRow) × (row_in map (key.Item place.uuid) ≡ Some (value.Item i)) × IsAt place i)
item_found map place row holds there tells = (
  λ h. (row, there, tells.0 h),
  λ has. tells.1 (subst (IsAt place) (same has) has.2),
)
  where
    same : (has : (i : ItemRow) × (row_in map (key.Item place.uuid) ≡ Some (value.Item i)) × IsAt place i) → has.0 ≡ row
    same has = let both : Some (value.Item has.0) ≡ Some (value.Item row) = sym has.1 ∙ there in cc

-- ---- changes

pub after_placed : (places : Places) (map other : RowMap) (changes : List Change) → PlacesRows places map → All (PlacesChange places) changes
    → ((k : Key) → row_in other k ≡ row_after (row_in map k) k changes) → PlacesRows places other
after_placed places map other changes placed to_place same u i there =
    left_or_put (λ v. (j : ItemRow) → v ≡ value.Item j → HasPlace places (place_of u j)) (key.Item u) (row_in map (key.Item u)) changes
    (λ v stands j is. placed u j (stands ∙ ap Some is))
    (All-weaker (PlacesChange places) (λ c. (v : Value) → Puts c (key.Item u) v → (j : ItemRow) → v ≡ value.Item j → HasPlace places (place_of u j))
    (λ c one v puts j is. one u j (subst (λ (w : Value). Puts c (key.Item u) w) is puts)) changes to_place)
    (value.Item i) (sym (same (key.Item u)) ∙ there) i refl

-- ---- the places of an account above a stamp

pub bounds_forward : (account above : ℕ) (uuid : Bytes) → above ≤ 2 ^ 64 - 1
    → IsForward (IsLeBy place_cmp) (IsLtBy place_cmp) (Excluded (place account above uuid)) (Included (place account (2 ^ 64 - 1) uuid))
bounds_forward account above uuid low =
    let last : Place = place account (2 ^ 64 - 1) uuid in
    elim (eq-or-lt_of_le low) [
      | inl same ↦ ap is_gt (ap (λ (s : ℕ). place_cmp (place account s uuid) last) same ∙ tied_itself total-law last)
      | inr below ↦ ap is_gt (stamp_first (place account above uuid) last refl below)
    ]

pub bounds_whole : (account above : ℕ) (last : Bytes) (stamp : ℕ) (uuid : Bytes) → above < stamp → stamp ≤ last_stamp
    → IsInRange place_cmp (Excluded (place account above last)) (Included (place account (2 ^ 64 - 1) last)) (place account stamp uuid)
bounds_whole account above last stamp uuid over low =
    let below : stamp < 2 ^ 64 - 1 = omega arith in (
      stamp_first (place account above last) (place account stamp uuid) refl over,
      ap is_gt (stamp_first (place account stamp uuid) (place account (2 ^ 64 - 1) last) refl below),
    )

-- each place there that is between two bounds is among those that a walk meets, which are in order
pub in_walk : (entries : BTreeSet Place) (lo hi : Bound Place) (walk : List Place) → walk ≡ keys_between place_cmp lo hi entries → (q : Place)
    → IsTrue (contains place_cmp entries q) → IsInRange place_cmp lo hi q → Contains walk q
in_walk entries lo hi walk is q has within =
    subst (λ (ps : List Place). Contains ps q) (sym is)
    (in_filter (range_contains place_cmp lo hi) entries.keys q ((btree_set_contains_iff total-law exact_places entries q).0 has)
    (range_contains-from_IsInRange total-law lo hi q within))

pub walk_in_order : (entries : BTreeSet Place) (lo hi : Bound Place) (walk : List Place) → walk ≡ keys_between place_cmp lo hi entries
    → IsOrdered place_cmp entries → IsStrictlySortedBy place_cmp walk
walk_in_order entries lo hi walk is ordered =
    subst (IsStrictlySortedBy place_cmp) (sym is) (IsStrictlySortedBy-filter place_cmp (range_contains place_cmp lo hi) entries.keys ordered)
