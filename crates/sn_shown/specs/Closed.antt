-- What is closed to a device: rows without a draft that open under a set of the account which the device doesn't hold.
use Rattle.std.specs.Prelude.{◌≡◌, ℕ, List, Option, Some, None}
use Rattle.sn_laws.specs.Each.{One}
use Rattle.sn_laws.specs.Lookups.{Bytes}
use Rattle.sn_laws.specs.declared.ideal.Account.{Account}
use Rattle.sn_laws.specs.declared.ideal.Device.{Device}
use Rattle.sn_laws.specs.declared.ideal.Ideal.{Ideal}
use Rattle.sn_report.specs.Labels.{Labels}
use Rattle.sn_report.specs.Showing.{closed_text}
use Rattle.sn_rows.specs.Table.{Rows}
use Rattle.sn_rows.specs.declared.body.RowBody.TheVariants as body
use Rattle.sn_rows.specs.declared.body.RowStrings.{RowStrings}
use Rattle.sn_rows.specs.declared.device_rows.LocalItem.{LocalItem}
use Rattle.sn_rows.specs.declared.key.Key.TheVariants as key
use Rattle.sn_rows.specs.declared.value.Value.TheVariants as value
use Rattle.sn_sets.specs.Sets.{sealed_of}
use Rattle.sn_shows.specs.Devices.{HasRow, ShowsBase}
use Rattle.sn_shows.specs.Laws.{HasAccount}
use Rattle.sn_shows.specs.Servers.{account_at}
use Rattle.sn_shows.specs.Sets.{OpensUnder}
use Rattle.sn_shown.specs.Held.{AreNumbers, numbers_of}
use Rattle.sn_shown.specs.declared.holding.Holding.{Holding}
use Rattle.sn_shown.specs.declared.numbers.Numbers.{Numbers}

-- the row has no draft, and its strings open under the account's set of this number, which isn't among those held
pub record IsItemClosed (a : Account) (held : List ℕ) (item : LocalItem) (under : ℕ) : Type 0 where
  pub undrafted : item.latest ≡ None
  pub strings : RowStrings
  pub body_is : item.body ≡ Some (body.Sealed strings)
  pub text : Bytes
  pub opens : OpensUnder a.sets under item.uuid (sealed_of strings) text
  pub not_held : ¬ (One (λ n. n ≡ under) held)

-- the device has a row of the item that is closed to it so
pub record IsClosedUnder (rows : Rows) (s : Ideal) (name uuid : Bytes) (under : ℕ) : Type 0 where
  pub device : Device
  pub account : Account
  pub has : HasAccount s name device account
  pub number : ℕ
  pub item : LocalItem
  pub stands : rows (key.Local number) ≡ Some (value.Local item)
  pub item_is : item.uuid ≡ uuid
  pub closed : IsItemClosed account device.held item under

-- under which set the item is closed to the device, or that it is under none
abbrev pub IsClosedAs : Rows → Ideal → Bytes → Bytes → Option ℕ → Type 0
IsClosedAs rows s name uuid (Some under) = IsClosedUnder rows s name uuid under
IsClosedAs rows s name uuid None = (under : ℕ) → ¬ (IsClosedUnder rows s name uuid under)

-- so of all items of a device, and of all devices
abbrev pub AreClosedTo : Rows → Ideal → Bytes → (Bytes → Option ℕ) → Type 0
AreClosedTo rows s name closed = (uuid : Bytes) → IsClosedAs rows s name uuid (closed uuid)

abbrev pub AreClosed : (Bytes → Rows) → Ideal → (Bytes → Bytes → Option ℕ) → Type 0
AreClosed devices s closed = (name : Bytes) → AreClosedTo (devices name) s name (closed name)

-- ---- row by row

abbrev pub IsItemClosedAs : Account → List ℕ → LocalItem → Option ℕ → Type 0
IsItemClosedAs a held item (Some under) = IsItemClosed a held item under
IsItemClosedAs a held item None = (under : ℕ) → ¬ (IsItemClosed a held item under)

-- the row of a device that holds these sets shows under which set it is closed
pub record ShowsClosedItem (numbers : Numbers) (h : Holding) (item : LocalItem) (under : Option ℕ) : Type 0 where
  pub accounts : List Account
  pub are : AreNumbers numbers accounts
  pub account : Account
  pub at : account_at h.account accounts ≡ Some account
  pub greatest : ℕ
  pub base : ShowsBase account greatest item item.base
  pub closed : IsItemClosedAs account (numbers_of h) item under

-- so does each row, and what is closed has a row
pub record ShowsClosed (rows : Rows) (numbers : Numbers) (h : Holding) (closed : Bytes → Option ℕ) : Type 0 where
  pub shown : (n : ℕ) (item : LocalItem) → rows (key.Local n) ≡ Some (value.Local item) → ShowsClosedItem numbers h item (closed item.uuid)
  pub rows_of : (uuid : Bytes) (under : ℕ) → closed uuid ≡ Some under → HasRow rows uuid

-- the line of an item that is closed to a device
abbrev pub closed_line : Labels → Bytes → Bytes → Option ℕ → Option Bytes
closed_line labels name uuid None = None
closed_line labels name uuid (Some under) = Some (closed_text labels name uuid under)
