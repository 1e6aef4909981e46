-- The rows of items, as pairs of a key and a value, in the order of their numbers.
use Rattle.std.proofs.Common.{arith, ◌<◌, ◌≡◌, ◌∙◌, ℕ, List, [], ◌∷◌, refl, sym, ap, length, get_or, map}
use Rattle.std.specs.List.{AllByRecursion, Contains}
use Rattle.std.specs.List.Sorted.{IsStrictlySortedBy}
use Rattle.std.specs.Map.{keys_of}
use Rattle.std.specs.Ordering.{nat_cmp}
use Rattle.std.specs.declared.cmp.Ordering.TheVariants.{Less}
use Rattle.std.proofs.lemmas.List.{get_or-map, length-map}
use Rattle.std.proofs.lemmas.Map.Keys.{IsStrictlyIncreasing-from_sorted}
use Rattle.sn_row_map.specs.Ranges.{AreRowsOf}
use Rattle.sn_row_map.specs.RowMaps.{row_in}
use Rattle.sn_row_map.specs.declared.row_map.RowMap.{RowMap}
use Rattle.sn_rows.specs.Kinds.{key_kind, value_kind}
use Rattle.sn_rows.specs.Order.{key_order}
use Rattle.sn_rows.specs.declared.device_rows.LocalItem.{LocalItem}
use Rattle.sn_rows.specs.declared.key.Key.{Key}
use Rattle.sn_rows.specs.declared.key.Key.TheVariants as key
use Rattle.sn_rows.specs.declared.kind.RowKind.TheVariants as kind
use Rattle.sn_rows.specs.declared.value.Value.{Value}
use Rattle.sn_rows.specs.declared.value.Value.TheVariants as value
use Rattle.sn_device.specs.Listing.{AreItems}
use Rattle.sn_device.specs.Sending.{Numbered}

abbrev pub Rowed : Type 0
Rowed = Key × Value

-- ---- the row of an item

abbrev pub row_of : Numbered → Rowed
row_of w = (key.Local w.0, value.Local w.1)

pub local_key : (k : Key) → key_kind k ≡ kind.Local → (n : ℕ) × (k ≡ key.Local n)
local_key (key.Local n) is = (n, refl)
local_key key.Store is = absurd cc
local_key (key.Account n) is = absurd cc
local_key (key.Generation n g) is = absurd cc
local_key (key.Item uuid) is = absurd cc
local_key key.Owner is = absurd cc
local_key (key.Set slot) is = absurd cc

pub local_value : (v : Value) → value_kind v ≡ kind.Local → (local : LocalItem) × (v ≡ value.Local local)
local_value (value.Local local) is = (local, refl)
local_value (value.Store row) is = absurd cc
local_value (value.Account row) is = absurd cc
local_value (value.Generation row) is = absurd cc
local_value (value.Item row) is = absurd cc
local_value (value.Owner row) is = absurd cc
local_value (value.Set row) is = absurd cc

pub same_number : (n m : ℕ) → key.Local n ≡ key.Local m → n ≡ m
same_number n m same = cc

pub same_local : (local other : LocalItem) → value.Local local ≡ value.Local other → local ≡ other
same_local local other same = cc

same_item : (v w : Numbered) → row_of v ≡ row_of w → v ≡ w
same_item v w same =
    let number = same_number v.0 w.0 (ap (λ (r : Rowed). r.0) same) in
    let item = same_local v.1 w.1 (ap (λ (r : Rowed). r.1) same) in
    ap (λ (n : ℕ). (n, v.1)) number ∙ ap (λ (local : LocalItem). (w.0, local)) item

-- an item is of a list where its row is of the rows
has_row : (items : List Numbered) (w : Numbered) → Contains items w → Contains (map row_of items) (row_of w)
has_row items w has =
    (has.0, omega (arith, length-map items row_of, has.1), get_or-map row_of items has.0 w (row_of w) has.1 ∙ ap row_of has.2)

of_row : (items : List Numbered) (w : Numbered) → Contains (map row_of items) (row_of w) → Contains items w
of_row items w has =
    let below : has.0 < length items = omega (arith, length-map items row_of, has.1) in
    (has.0, below, same_item (get_or items has.0 w) w (sym (get_or-map row_of items has.0 w (row_of w) below) ∙ has.2))

-- ---- keys of items are in the order of their numbers

above : (n : ℕ) (items : List Numbered) → AllByRecursion (λ k. key_order (key.Local n) k ≡ Less) (keys_of (map row_of items))
    → AllByRecursion (λ m. nat_cmp n m ≡ Less) (map (λ w. w.0) items)
above n [] sorted = tt
above n (w ∷ items) sorted = (sorted.0, above n items sorted.1)

by_number : (items : List Numbered) → IsStrictlySortedBy key_order (keys_of (map row_of items)) → IsStrictlySortedBy nat_cmp (map (λ w. w.0) items)
unfolding IsStrictlySortedBy
by_number [] sorted = tt
by_number (w ∷ items) sorted = (above w.0 items sorted.0, by_number items sorted.1)

pub are_items : (rows : RowMap) (items : List Numbered) → AreRowsOf rows kind.Local (map row_of items) → AreItems (row_in rows) items
are_items rows items are = record {
  rising = IsStrictlyIncreasing-from_sorted (map (λ w. w.0) items) (by_number items are.sorted);
  whole = λ n local. (
    λ has. ((are.whole (key.Local n) (value.Local local)).0 (has_row items (n, local) has)).1,
    λ stands. of_row items (n, local) ((are.whole (key.Local n) (value.Local local)).1 (refl, stands)),
  );
}
