-- For private clauses: where an item stands, as the reader names it, and what is read of it in parts.
use Rattle.std.specs.Prelude.{codes}
use Rattle.serde_json.specs.Data.{Data}
use Rattle.serde_json.specs.Find.{get}
use Rattle.sn_sync.specs.Items as items
use Rattle.sn_sync.specs.Items.{RefusesPlace, SaysUpdated}
use Rattle.sn_sync.specs.Members.{SaysFlag, SaysTextOrEmpty, SaysUuid}
use Rattle.sn_sync.specs.Refusals.{Then}
use Rattle.sn_sync.specs.declared.error.SyncError.{SyncError}
use Rattle.sn_sync.specs.declared.item_reader.Place.{Place}
use Rattle.sn_sync.specs.declared.item_reader.Standing.{Standing}
use Rattle.sn_sync.specs.declared.item_reader.Standing.TheVariants as standing

abbrev pub standing_of : Standing → items.Standing
standing_of standing.Sent = items.sent
standing_of standing.Stored = items.stored

-- the version that the item names, and its uuid
pub record IsPlace (standing : items.Standing) (d : Data) (place : Place) : Type 0 where
  pub updated : SaysUpdated standing (get (codes "updated_at") d) place.updated_at
  pub uuid : SaysUuid (get (codes "uuid") d) place.uuid

-- behind the stamp of a kept item's first acceptance
abbrev pub RefusesRest : items.Standing → Data → SyncError → Type 0
RefusesRest standing d =
    Then (SaysFlag (get (codes "deleted") d)) (codes "deleted")
    (Then (SaysTextOrEmpty (get (codes "enc_item_key") d)) (codes "enc_item_key")
    (RefusesPlace standing d))
