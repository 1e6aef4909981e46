-- Items, as they stand in messages.
use Rattle.std.specs.Prelude.{◌≡◌, ◌≢◌, ◌⊎◌, ℕ, ◌≤◌, List, [], ◌∷◌, length, codes, true, false, Option, Some, None}
use Rattle.serde_json.specs.Data.{Data, Items, array, boolean, item, no_items}
use Rattle.serde_json.specs.Find.{get}
use Rattle.sn_sync.specs.Members.{Bytes, IsObject, SaysFlag, SaysOptional, SaysStamp, SaysStampText, SaysTextOrEmpty, SaysUuid}
use Rattle.sn_sync.specs.Refusals.{Done, Next, Then}
use Rattle.sn_sync.specs.declared.error.SyncError.{SyncError}
use Rattle.sn_sync.specs.declared.error.SyncError.TheVariants as error
use Rattle.sn_sync.specs.declared.item.Body.{Body}
use Rattle.sn_sync.specs.declared.item.Body.TheVariants as body
use Rattle.sn_sync.specs.declared.item.Item.{Item}

-- an item's type has at least so many bytes, and at most 255
abbrev pub SaysKind : ℕ → Option Data → Bytes → Type 0
SaysKind least m kind = SaysTextOrEmpty m kind × (least ≤ length kind) × (length kind ≤ 255)

abbrev pub IsDeleted : Data → Type 0
IsDeleted d = get (codes "deleted") d ≡ Some (boolean true)

-- the type and the body of a version: a deleted one may have an empty type, and its strings don't count
abbrev pub SaysVersion : Data → Bytes → Body → Type 0
SaysVersion d kind body.Deleted = IsDeleted d × SaysKind 0 (get (codes "content_type") d) kind
SaysVersion d kind (body.Strings content enc) =
    SaysFlag (get (codes "deleted") d) false × SaysKind 1 (get (codes "content_type") d) kind
    × SaysTextOrEmpty (get (codes "content") d) content × SaysTextOrEmpty (get (codes "enc_item_key") d) enc

-- where an item stands: in a request, and given back with no place among the account's versions, or as the account has it
pub data Standing : Type 0 where
  sent : Standing
  stored : Standing

-- a sent item names the version that it replaces by any text
abbrev pub SaysUpdated : Standing → Option Data → Option Bytes → Type 0
SaysUpdated sent m updated_at = SaysOptional m updated_at
SaysUpdated stored m None = ⊥
SaysUpdated stored m (Some text) = SaysStampText m text

-- the stamp of the first acceptance, which counts in a stored item alone
abbrev pub SaysCreated : Standing → Option Data → Option ℕ → Type 0
SaysCreated sent m created = created ≡ None
SaysCreated stored m None = ⊥
SaysCreated stored m (Some stamp) = SaysStamp m stamp

pub record IsItem (standing : Standing) (d : Data) (i : Item) : Type 0 where
  pub object : IsObject d
  pub uuid : SaysUuid (get (codes "uuid") d) i.uuid
  pub created : SaysCreated standing (get (codes "created_at") d) i.created
  pub updated : SaysUpdated standing (get (codes "updated_at") d) i.updated_at
  pub version : SaysVersion d i.kind i.body

abbrev pub RefusesPlace : Standing → Data → SyncError → Type 0
RefusesPlace standing d =
    Then (SaysUpdated standing (get (codes "updated_at") d)) (codes "updated_at")
    (Then (SaysUuid (get (codes "uuid") d)) (codes "uuid")
    Done)

abbrev pub RefusesCreated : Standing → Data → (SyncError → Type 0) → SyncError → Type 0
RefusesCreated standing d later = Then (SaysCreated standing (get (codes "created_at") d)) (codes "created_at") later

abbrev pub RefusesDeleted : Standing → Data → SyncError → Type 0
RefusesDeleted standing d =
    Then (SaysKind 0 (get (codes "content_type") d)) (codes "content_type")
    (RefusesCreated standing d
    (RefusesPlace standing d))

abbrev pub RefusesKept : Standing → Data → SyncError → Type 0
RefusesKept standing d =
    Then (SaysTextOrEmpty (get (codes "content") d)) (codes "content")
    (Then (SaysKind 1 (get (codes "content_type") d)) (codes "content_type")
    (RefusesCreated standing d
    (Then (SaysFlag (get (codes "deleted") d)) (codes "deleted")
    (Then (SaysTextOrEmpty (get (codes "enc_item_key") d)) (codes "enc_item_key")
    (RefusesPlace standing d)))))

-- what is no object lacks the member that was to be an item; else the first of its own members that is out of form
abbrev pub RefusesItem : Standing → Bytes → Data → SyncError → Type 0
RefusesItem standing outer d e =
    (¬ (IsObject d) × (e ≡ error.Member outer))
    ⊎ (IsObject d × IsDeleted d × RefusesDeleted standing d e)
    ⊎ (IsObject d × ¬ (IsDeleted d) × RefusesKept standing d e)

-- the values are these items, in order
abbrev pub AreItems : Standing → Items → List Item → Type 0
AreItems standing no_items [] = Unit {0}
AreItems standing no_items (i ∷ is) = ⊥
AreItems standing (item d ds) [] = ⊥
AreItems standing (item d ds) (i ∷ is) = IsItem standing d i × AreItems standing ds is

-- the first of the values that is no item is refused so
abbrev pub RefusesItems : Standing → Bytes → Items → SyncError → Type 0
RefusesItems standing outer no_items e = ⊥
RefusesItems standing outer (item d ds) e =
    Next ((i : Item) × IsItem standing d i) (RefusesItem standing outer d) (RefusesItems standing outer ds) e

-- the member is a list of items
abbrev pub SaysItems : Standing → Option Data → List Item → Type 0
SaysItems standing m items = (ds : Items) × (m ≡ Some (array ds)) × AreItems standing ds items

abbrev pub RefusesList : Standing → Bytes → Option Data → SyncError → Type 0
RefusesList standing name m e =
    (((ds : Items) → m ≢ Some (array ds)) × (e ≡ error.Member name))
    ⊎ ((ds : Items) × (m ≡ Some (array ds)) × RefusesItems standing name ds e)
