-- What is closed to a device, by its rows.
use Rattle.std.proofs.Common.{◌≡◌, ◌⊎◌, ℕ, Option, Some, None, refl, sym, ap, ◌∙◌, subst, inl, inr}
use Rattle.sn_laws.proofs.Facts.{found_passes}
use Rattle.sn_laws.specs.Lookups.{Bytes, account_named, device_named, greatest, is_account}
use Rattle.sn_laws.specs.Reached.{NoncesApart}
use Rattle.sn_laws.specs.declared.ideal.Account.{Account}
use Rattle.sn_laws.specs.declared.ideal.Device.{Device}
use Rattle.sn_laws.specs.declared.ideal.Ideal.{Ideal}
use Rattle.sn_row_map.specs.declared.row_map.RowMap.{RowMap}
use Rattle.sn_rows.specs.Table.{Rows}
use Rattle.sn_rows.specs.declared.device_rows.LocalItem.{LocalItem}
use Rattle.sn_rows.specs.declared.key.Key.TheVariants as key
use Rattle.sn_rows.specs.declared.value.Value.TheVariants as value
use Rattle.sn_shows.specs.Devices.{HasRow, ShowsDevice, ShowsHolder}
use Rattle.sn_shown.specs.Closed.{AreClosed, IsClosedAs, IsClosedUnder, IsItemClosed, IsItemClosedAs}
use Rattle.sn_shown.specs.Laws.{OneClosed}
use Rattle.sn_shown.specs.Rows.{rows_in}
use Rattle.sn_shown.specs.Shown.{IsRegular}
use Rattle.sn_shown.proofs.ClosedItems.{item_closed, one_item}
use Rattle.sn_shown.proofs.Finds.{each_one, never, one_found}
use Rattle.sn_shown.proofs.HoldingLemmas.{Owned, owned_by}
use Rattle.sn_shown.proofs.RowSearch.{row_or_none}

-- ---- a row of a device that has an account

module _ (rows : Rows) (s : Ideal) (name : Bytes) (d : Device) (a : Account) (named : device_named s name ≡ Some d)
    (account_is : account_named s d.account ≡ Some a) (holder : ShowsHolder rows s name d a) (n : ℕ) (item : LocalItem)
    (stands : rows (key.Local n) ≡ Some (value.Local item)) where
  -- an item that is closed is so in its one row
  own_closed : (under : ℕ) → IsClosedUnder rows s name item.uuid under → IsItemClosed a d.held item under
  own_closed under c =
      let number : c.number ≡ n = holder.once c.number n c.item item c.stands stands c.item_is in
      let there : rows (key.Local n) ≡ Some (value.Local c.item) = ap (λ (m : ℕ). rows (key.Local m)) (sym number) ∙ c.stands in
      let values : value.Local c.item ≡ value.Local item = one_found (rows (key.Local n)) (value.Local c.item) (value.Local item) there stands in
      let same : c.item ≡ item = cc in
      let device : c.device ≡ d = one_found (device_named s name) c.device d c.has.device named in
      let found : account_named s d.account ≡ Some c.account = ap (λ (x : Device). account_named s x.account) (sym device) ∙ c.has.account in
      let account : c.account ≡ a = one_found (account_named s d.account) c.account a found account_is in
      let of_item : IsItemClosed c.account c.device.held item under = subst (λ (x : LocalItem). IsItemClosed c.account c.device.held x under) same c.closed in
      let of_device : IsItemClosed c.account d.held item under = subst (λ (x : Device). IsItemClosed c.account x.held item under) device of_item in
      subst (λ (x : Account). IsItemClosed x d.held item under) account of_device

  own_row : (under : ℕ) → IsItemClosed a d.held item under → IsClosedUnder rows s name item.uuid under
  own_row under c =
      record {
        device = d;
        account = a;
        has = record { device = named; account = account_is };
        number = n;
        item = item;
        stands = stands;
        item_is = refl;
        closed = c;
      }

  pub item_as : (o : Option ℕ) → IsClosedAs rows s name item.uuid o → IsItemClosedAs a d.held item o
  item_as None c = λ under h. c under (own_row under h)
  item_as (Some under) c = own_closed under c

  pub row_as : (o : Option ℕ) → IsItemClosedAs a d.held item o → IsClosedAs rows s name item.uuid o
  row_as None c = λ under h. c under (own_closed under h)
  row_as (Some under) c = own_row under c

-- ---- it can be told of each item of a device

nonces_apart : (s : Ideal) (identifier : Bytes) (a : Account) → IsRegular s → account_named s identifier ≡ Some a → NoncesApart a
nonces_apart s identifier a regular e = each_one NoncesApart s.accounts a regular.nonces (found_passes (is_account identifier) s.accounts a e).1

module _ (map : Option RowMap) (s : Ideal) (name : Bytes) (regular : IsRegular s) (shows : ShowsDevice (rows_in map) s name) (uuid : Bytes) where
  abbrev Told : Type 0
  Told = (o : Option ℕ) × IsClosedAs (rows_in map) s name uuid o

  told_of_row : (d : Device) → device_named s name ≡ Some d → HasRow (rows_in map) uuid → Told
  told_of_row d e row =
      let owned : Owned (rows_in map) s name d = owned_by (rows_in map) s name d shows e in
      let shown = owned.holder.locals row.number row.item row.stands in
      let told = item_closed owned.account d.held (greatest 0 d.held) row.item (nonces_apart s d.account owned.account regular owned.named) shown.base in (
        told.0,
        subst (λ (u : Bytes). IsClosedAs (rows_in map) s name u told.0) row.item_is
            (row_as (rows_in map) s name d owned.account e owned.named owned.holder row.number row.item row.stands told.0 told.1),
      )

  pub told : Told
  told = at (device_named s name) refl
    where
      of_device : (d : Device) → device_named s name ≡ Some d
          → HasRow (rows_in map) uuid ⊎ ((n : ℕ) (item : LocalItem) → rows_in map (key.Local n) ≡ Some (value.Local item) → item.uuid ≡ uuid → ⊥) → Told
      of_device d e (inl row) = told_of_row d e row
      of_device d e (inr none) = (None, λ under c. none c.number c.item c.stands c.item_is)

      at : (found : Option Device) → device_named s name ≡ found → Told
      at None e = (None, λ under c. never (device_named s name) c.device c.has.device e)
      at (Some d) e = of_device d e (row_or_none map uuid)

-- ---- and of all devices

module _ (rows_of : Bytes → Option RowMap) (s : Ideal) (regular : IsRegular s) (each : (name : Bytes) → ShowsDevice (rows_in (rows_of name)) s name) where
  abbrev pub closed_in : Bytes → Bytes → Option ℕ
  closed_in name uuid = (told (rows_of name) s name regular (each name) uuid).0

  pub closed_are : AreClosed (λ name. rows_in (rows_of name)) s closed_in
  closed_are = λ name uuid. (told (rows_of name) s name regular (each name) uuid).1

-- ---- and in one way

one_under : (rows : Rows) (s : Ideal) (name uuid : Bytes) (under other : ℕ) → IsRegular s → ShowsDevice rows s name
    → IsClosedUnder rows s name uuid under → IsClosedUnder rows s name uuid other → under ≡ other
one_under rows s name uuid under other regular shows h r =
    let owned : Owned rows s name h.device = owned_by rows s name h.device shows h.has.device in
    let own : (u : ℕ) → IsClosedUnder rows s name uuid u → IsItemClosed owned.account h.device.held h.item u =
    λ u c.
    own_closed rows s name h.device owned.account h.has.device owned.named owned.holder h.number h.item h.stands u
    (subst (λ (x : Bytes). IsClosedUnder rows s name x u) (sym h.item_is) c) in
    one_item owned.account h.device.held h.item under other (nonces_apart s h.device.account owned.account regular owned.named) (own under h) (own other r)

pub one_closed : OneClosed
one_closed devices s closed other regular each are_closed are_other name uuid =
    by (closed name uuid) (other name uuid) (are_closed name uuid) (are_other name uuid)
  where
    by : (a b : Option ℕ) → IsClosedAs (devices name) s name uuid a → IsClosedAs (devices name) s name uuid b → a ≡ b
    by None None h r = refl
    by None (Some w) h r = absurd (h w r)
    by (Some u) None h r = absurd (r u h)
    by (Some u) (Some w) h r = ap (λ (n : ℕ). Some n) (one_under (devices name) s name uuid u w regular (each name) h r)
