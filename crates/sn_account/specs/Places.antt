-- Where items are looked for by their accounts and stamps.
use Rattle.std.specs.Prelude.{◌≡◌, List, Some, All, IsTrue, true}
use Rattle.std.specs.BTreeSet.{contains}
use Rattle.std.specs.Coded.{Coded-set, coded_bool, Π_prop, →_prop}
use Rattle.std.specs.declared.cmp.Ordering.{Ordering}
use Rattle.sn_row_map.specs.RowMaps.{row_in}
use Rattle.sn_row_map.specs.declared.row_map.RowMap.{RowMap}
use Rattle.sn_rows.specs.Table.{Puts}
use Rattle.sn_rows.specs.declared.change.Change.{Change}
use Rattle.sn_rows.specs.declared.key.Key.{Key}
use Rattle.sn_rows.specs.declared.key.Key.TheVariants as key
use Rattle.sn_rows.specs.declared.server_rows.ItemRow.{ItemRow}
use Rattle.sn_rows.specs.declared.value.Value.{Value}
use Rattle.sn_rows.specs.declared.value.Value.TheVariants as value
use Rattle.sn_account.specs.Lookups.{Bytes}
use Rattle.sn_account.specs.contracts.place.PlaceOrd.TheImpl as code
use Rattle.sn_account.specs.declared.place.Place.{Place}
use Rattle.sn_account.specs.declared.places.Places.{Places}

-- how the code compares places
abbrev pub place_cmp : Place → Place → Ordering
place_cmp = code.ghosts.cmp

-- the place of an item
abbrev pub place_of : Bytes → ItemRow → Place
place_of uuid i = record { account = i.account; stamp = i.updated; uuid = uuid }

-- the item's account and stamp are those of the place
abbrev pub IsAt : Place → ItemRow → Type 0
IsAt place i = (i.account ≡ place.account) × (i.updated ≡ place.stamp)

-- the place is one of those where items are looked for
abbrev pub HasPlace : Places → Place → Type 0
HasPlace places place = IsTrue (contains place_cmp places.entries place)

-- each item of the rows has its place there
abbrev pub PlacesRows : Places → RowMap → Type 0
PlacesRows places map = (u : Bytes) (i : ItemRow) → row_in map (key.Item u) ≡ Some (value.Item i) → HasPlace places (place_of u i)

-- the item of a row does, where it is one of an item
abbrev pub PlacesRow : Places → Key → Value → Type 0
PlacesRow places k v = (u : Bytes) (i : ItemRow) → k ≡ key.Item u → v ≡ value.Item i → HasPlace places (place_of u i)

-- so does the item that a change puts
abbrev pub PlacesChange : Places → Change → Type 0
PlacesChange places change = (u : Bytes) (i : ItemRow) → Puts change (key.Item u) (value.Item i) → HasPlace places (place_of u i)

-- what stands there stays
abbrev pub KeepsPlaces : Places → Places → Type 0
KeepsPlaces old new = (place : Place) → HasPlace old place → HasPlace new place

-- ---- each of these has at most one proof, so it may stand as a rule of a struct

HasPlace-prop : (places : Places) (place : Place) → IsProp (HasPlace places place)
HasPlace-prop places place = Coded-set coded_bool (contains place_cmp places.entries place) true

pub places_rows-prop : (places : Places) (map : RowMap) → IsProp (PlacesRows places map)
places_rows-prop places map = Π_prop (λ u. Π_prop (λ i. →_prop (HasPlace-prop places (place_of u i))))

pub places_changes-prop : (places : Places) (changes : List Change) → IsProp (All (PlacesChange places) changes)
places_changes-prop places changes = Π_prop (λ k. Π_prop (λ d. →_prop (Π_prop (λ u. Π_prop (λ i. →_prop (HasPlace-prop places (place_of u i)))))))
