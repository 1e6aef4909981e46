-- A stored item as an answer gives it.
use Rattle.std.specs.Prelude.{◌≡◌, Some, if◌then◌else◌}
use Rattle.sn_rows.specs.declared.server_rows.ItemRow.{ItemRow}
use Rattle.sn_sync.specs.Stamps.{IsStampText}
use Rattle.sn_sync.specs.declared.item.Body.{Body}
use Rattle.sn_sync.specs.declared.item.Body.TheVariants as body
use Rattle.sn_sync.specs.declared.item.Item.{Item}
use Rattle.sn_account.specs.Lookups.{Bytes}

abbrev pub body_of : ItemRow → Body
body_of row = if row.deleted then body.Deleted else body.Strings row.content row.enc

-- with the stamp of its first acceptance, and the text of that of its last
pub record IsGiven (uuid : Bytes) (row : ItemRow) (i : Item) : Type 0 where
  pub uuid_is : i.uuid ≡ uuid
  pub kind : i.kind ≡ row.kind
  pub created : i.created ≡ Some row.created
  pub stamp : Bytes
  pub spelled : IsStampText stamp row.updated
  pub updated : i.updated_at ≡ Some stamp
  pub body : i.body ≡ body_of row
