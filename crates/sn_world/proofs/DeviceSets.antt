-- The sets and drafts of a device's rows, as those of its account.
use Rattle.std.proofs.Common.{◌≡◌, ◌<◌, ℕ, Option, Some, None, refl, sym, ap, ◌∙◌, subst, arith}
use Rattle.sn_laws.proofs.Facts.{one_there}
use Rattle.sn_laws.specs.Lookups.{Bytes, account_for, account_of, draft_at, greatest}
use Rattle.sn_laws.specs.declared.ideal.Account.{Account}
use Rattle.sn_laws.specs.declared.ideal.Device.{Device}
use Rattle.sn_laws.specs.declared.ideal.Draft.{Draft}
use Rattle.sn_laws.specs.declared.ideal.Ideal.{Ideal}
use Rattle.sn_rows.specs.Kinds.{value_kind}
use Rattle.sn_rows.specs.Table.{Rows}
use Rattle.sn_rows.specs.declared.body.RowBody.{RowBody}
use Rattle.sn_rows.specs.declared.device_rows.LocalItem.{LocalItem}
use Rattle.sn_rows.specs.declared.device_rows.OwnerRow.{OwnerRow}
use Rattle.sn_rows.specs.declared.device_rows.SetRow.{SetRow}
use Rattle.sn_rows.specs.declared.key.Key.TheVariants as key
use Rattle.sn_rows.specs.declared.key.Slot.TheVariants.{Present}
use Rattle.sn_rows.specs.declared.kind.RowKind.TheVariants as kind
use Rattle.sn_rows.specs.declared.value.Value.{Value}
use Rattle.sn_rows.specs.declared.value.Value.TheVariants as value
use Rattle.sn_sets.specs.declared.sets.Sets.{Sets}
use Rattle.sn_shows.specs.Devices.{IsSetRow, ShowsContent, ShowsDraft, ShowsDrafted, ShowsHolder}
use Rattle.sn_shows.specs.Laws.{HasAccount}
use Rattle.sn_shows.specs.Sets.{set_at}
use Rattle.sn_string.proofs.Facts.{same_keys}
use Rattle.sn_string.specs.declared.params.KeySet.{KeySet}
use Rattle.sn_world.proofs.DeviceRows.{one_owner}
use Rattle.sn_device.specs.States.{HasLocal, HasOwner, HasSets, IsFree, IsSetOf, IsSound}

pub one_set_row : (x y : SetRow) (found : Option Value) → found ≡ Some (value.Set x) → found ≡ Some (value.Set y) → x ≡ y
one_set_row x y found e k = cc

-- the set of a row that is an account's set is that
pub set_of_row : (a : Account) (number : ℕ) (row : SetRow) (identifier : Bytes) (set : KeySet) → identifier ≡ a.identifier → IsSetRow a number row
    → IsSetOf identifier row set → set_at number a.sets ≡ Some set
set_of_row a number row identifier set own is of =
    let same : is.set ≡ set = same_keys is.set set (is.identifier ∙ sym own ∙ sym of.identifier_is) (sym is.cost ∙ sym of.cost) (sym is.nonce ∙ sym of.nonce)
    (sym is.pw ∙ sym of.pw) (sym is.mk ∙ sym of.mk) (sym is.ak ∙ sym of.ak) in
    is.at ∙ ap Some same

-- the present set is the account's set of the greatest number that is held
pub present_at : (rows : Rows) (s : Ideal) (name : Bytes) (d : Device) (a : Account) (owner : OwnerRow) (sets : Sets) → ShowsHolder rows s name d a
    → HasSets rows owner sets → set_at (greatest 0 d.held) a.sets ≡ Some sets.present
present_at rows s name d a owner sets h has =
    let slot = has.in_use in
    let own : owner.identifier ≡ a.identifier =
    ap (λ (o : OwnerRow). o.identifier) (one_owner owner h.owner.owner (rows key.Owner) has.owned h.owner.stands) ∙ h.owner.identifier in
    let same : h.present.row ≡ slot.0 = one_set_row h.present.row slot.0 (rows (key.Set Present)) h.present.stands slot.1 in
    set_of_row a (greatest 0 d.held) slot.0 owner.identifier sets.present own
    (subst (λ (r : SetRow). IsSetRow a (greatest 0 d.held) r) same h.present.is) slot.2

pub identifier_of : (rows : Rows) (s : Ideal) (name : Bytes) (d : Device) (a : Account) (owner : OwnerRow) → ShowsHolder rows s name d a → HasOwner rows owner
    → owner.identifier ≡ a.identifier
identifier_of rows s name d a owner h owned =
    ap (λ (o : OwnerRow). o.identifier) (one_owner owner h.owner.owner (rows key.Owner) owned h.owner.stands) ∙ h.owner.identifier

pub account_is : (s : Ideal) (name : Bytes) (d : Device) (a : Account) → HasAccount s name d a → account_of s name ≡ Some a
account_is s name d a has = ap (account_for s.accounts) has.device ∙ has.account

-- a local number's row is an item's
pub local_of_kind : (v : Value) → kind.Local ≡ value_kind v → (local : LocalItem) × (v ≡ value.Local local)
local_of_kind (value.Local local) e = (local, refl)
local_of_kind (value.Store row) e = absurd (cc)
local_of_kind (value.Account row) e = absurd (cc)
local_of_kind (value.Generation row) e = absurd (cc)
local_of_kind (value.Item row) e = absurd (cc)
local_of_kind (value.Owner row) e = absurd (cc)
local_of_kind (value.Set row) e = absurd (cc)

-- no row has the next number
pub next_is_free : (rows : Rows) (owner : OwnerRow) → IsSound rows → HasOwner rows owner → rows (key.Local owner.next) ≡ None
next_is_free rows owner sound owned = by (rows (key.Local owner.next)) refl
  where
    by : (found : Option Value) → rows (key.Local owner.next) ≡ found → rows (key.Local owner.next) ≡ None
    by None e = e
    by (Some v) e =
        let local = local_of_kind v (sound.device.kinds (key.Local owner.next) v e) in
        let below : owner.next < owner.next = sound.locals.numbered owner owner.next local.0 owned (e ∙ ap Some local.1) in
        absurd (omega arith)

-- an item that no row has has no draft
pub free_undrafted : (rows : Rows) (s : Ideal) (name : Bytes) (d : Device) (a : Account) (uuid : Bytes) → ShowsHolder rows s name d a → IsFree rows uuid
    → draft_at s name uuid ≡ None
free_undrafted rows s name d a uuid h free = by (draft_at s name uuid) refl
  where
    by : (found : Option Draft) → draft_at s name uuid ≡ found → draft_at s name uuid ≡ None
    by None e = e
    by (Some draft) e = let row = h.drafts uuid draft e in absurd (free row.number row.item (row.stands, row.item_is))

-- the draft of a row that has one
pub row_draft : (rows : Rows) (s : Ideal) (name : Bytes) (d : Device) (a : Account) → ShowsHolder rows s name d a → (number : ℕ) (local : LocalItem) → HasLocal rows number local
    → (latest : RowBody) → local.latest ≡ Some latest
    → (draft : Draft) × (draft_at s name local.uuid ≡ Some draft) × ShowsDraft a.sets (greatest 0 d.held) local draft
    × ShowsContent a.sets (greatest 0 d.held) local.uuid latest draft.latest
row_draft rows s name d a h number local stands latest is = by (draft_at s name local.uuid) refl (h.locals number local stands).draft
  where
    by : (found : Option Draft) → draft_at s name local.uuid ≡ found → ShowsDrafted a.sets (greatest 0 d.held) local found
        → (draft : Draft) × (draft_at s name local.uuid ≡ Some draft) × ShowsDraft a.sets (greatest 0 d.held) local draft
        × ShowsContent a.sets (greatest 0 d.held) local.uuid latest draft.latest
    by None e k = let none : local.latest ≡ None = k.0 in absurd (cc)
    by (Some draft) e k =
        let same : k.latest ≡ latest = one_there k.latest latest local.latest k.latest_is is in
        (draft, e, k, subst (λ (b : RowBody). ShowsContent a.sets (greatest 0 d.held) local.uuid b draft.latest) same k.content)
