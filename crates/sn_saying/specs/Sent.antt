-- What a device has sent, as a row of its own has it.
use Rattle.std.specs.Prelude.{◌≡◌, ℕ, false, Option, Some}
use Rattle.sn_account.specs.Stored.{body_of}
use Rattle.sn_device.specs.Sending.{message_body}
use Rattle.sn_laws.specs.Lookups.{Bytes}
use Rattle.sn_rows.specs.declared.body.RowBody.{RowBody}
use Rattle.sn_rows.specs.declared.body.RowStrings.{RowStrings}
use Rattle.sn_rows.specs.declared.device_rows.LocalItem.{LocalItem}
use Rattle.sn_rows.specs.declared.key.Key.{Key}
use Rattle.sn_rows.specs.declared.key.Key.TheVariants as key
use Rattle.sn_rows.specs.declared.server_rows.ItemRow.{ItemRow}
use Rattle.sn_rows.specs.declared.value.Value.{Value}
use Rattle.sn_rows.specs.declared.value.Value.TheVariants as value

-- the server's row isn't of a deletion, and has these strings
pub record HasStrings (row : ItemRow) (strings : RowStrings) : Type 0 where
  pub live : row.deleted ≡ false
  pub content : row.content ≡ strings.content
  pub enc : row.enc ≡ strings.enc

-- the device's row is of this item and stands on this stamp, or on none; it has the type of the server's row, and what that has as what was sent
pub record HasSent (base : Option ℕ) (uuid : Bytes) (row : ItemRow) (local : LocalItem) : Type 0 where
  pub uuid_is : local.uuid ≡ uuid
  pub base_is : local.base ≡ base
  pub kind_is : local.kind ≡ row.kind
  pub posted : RowBody
  pub posted_is : local.posted ≡ Some posted
  pub body_is : body_of row ≡ message_body posted

-- a row of the device is one of an item of which that is so
abbrev pub IsSentAt : Option ℕ → Bytes → ItemRow → Key → Value → Type 0
IsSentAt base uuid row at v = (number : ℕ) × (local : LocalItem) × (at ≡ key.Local number) × (v ≡ value.Local local) × HasSent base uuid row local
