-- What a device's rows show depends on the device, its account and its drafts alone.
use Rattle.std.proofs.Common.{◌≡◌, ◌≢◌, ℕ, Option, Some, None, Bool, true, false, refl, sym, ◌∙◌, subst}
use Rattle.std.specs.Str.{bytes_eq}
use Rattle.std.proofs.lemmas.Bool.{and_parts}
use Rattle.sn_laws.proofs.Facts.{and_both, is_false, same_text, text_same}
use Rattle.sn_laws.specs.Lookups.{Bytes, account_named, device_named, draft_at, greatest, is_device, is_draft}
use Rattle.sn_laws.specs.declared.ideal.Account.{Account}
use Rattle.sn_laws.specs.declared.ideal.Device.{Device}
use Rattle.sn_laws.specs.declared.ideal.Draft.{Draft}
use Rattle.sn_laws.specs.declared.ideal.Ideal.{Ideal}
use Rattle.sn_rows.specs.Table.{Rows}
use Rattle.sn_rows.specs.declared.device_rows.LocalItem.{LocalItem}
use Rattle.sn_rows.specs.declared.key.Key.{Key}
use Rattle.sn_rows.specs.declared.value.Value.{Value}
use Rattle.sn_sets.specs.Sets.{sealed_of}
use Rattle.sn_shows.specs.Devices.{IsBase, ListsBase, OpensBase, ShowsDevice, ShowsDeviceAs, ShowsDrafted, ShowsHolder, ShowsLocal}
use Rattle.sn_shows.specs.Laws.{HasAccount}
use Rattle.sn_shows.specs.Sets.{OpensUnder}

-- a draft passes for its own device and item

pub draft_is : (device uuid : Bytes) (d : Draft) → is_draft device uuid d ≡ true → (d.device ≡ device) × (d.uuid ≡ uuid)
draft_is device uuid d h =
    let both = and_parts (bytes_eq d.device device) (bytes_eq d.uuid uuid) h in
    (same_text d.device device both.0, same_text d.uuid uuid both.1)

pub draft_passes : (device uuid : Bytes) (d : Draft) → d.device ≡ device → d.uuid ≡ uuid → is_draft device uuid d ≡ true
draft_passes device uuid d e k =
    and_both (bytes_eq d.device device) (bytes_eq d.uuid uuid) (text_same d.device device e) (text_same d.uuid uuid k)

-- and for none else

pub not_of_item : (device uuid other : Bytes) (d : Draft) → other ≢ uuid → d.uuid ≡ uuid → is_draft device other d ≡ false
not_of_item device uuid other d apart e =
    is_false (is_draft device other d) (λ t. apart (sym (draft_is device other d t).1 ∙ e))

pub not_of_device : (device other uuid : Bytes) (d : Draft) → other ≢ device → d.device ≡ device → is_draft other uuid d ≡ false
not_of_device device other uuid d apart e =
    is_false (is_draft other uuid d) (λ t. apart (sym (draft_is other uuid d t).0 ∙ e))

pub not_device : (name other : Bytes) (d : Device) → other ≢ name → d.name ≡ name → is_device other d ≡ false
not_device name other d apart e = is_false (is_device other d) (λ t. apart (sym (same_text d.name other t) ∙ e))

-- rows of a state where device, account and drafts are the same

pub local_alike : (s t : Ideal) (name : Bytes) (number : ℕ) (a : Account) (item : LocalItem) → draft_at t name item.uuid ≡ draft_at s name item.uuid
    → ShowsLocal s name number a item → ShowsLocal t name number a item
local_alike s t name number a item same h =
    record { draft = subst (λ (found : Option Draft). ShowsDrafted a.sets number item found) (sym same) h.draft; base = h.base }

pub holder_alike : (rows : Rows) (s t : Ideal) (name : Bytes) (d : Device) (a : Account) → ((uuid : Bytes) → draft_at t name uuid ≡ draft_at s name uuid)
    → ShowsHolder rows s name d a → ShowsHolder rows t name d a
holder_alike rows s t name d a same h =
    record {
      owner = h.owner;
      present = h.present;
      older = h.older;
      locals = λ number item e. local_alike s t name (greatest 0 d.held) a item (same item.uuid) (h.locals number item e);
      once = h.once;
      drafts = λ uuid draft e. h.drafts uuid draft (sym (same uuid) ∙ e);
      no_other = h.no_other;
    }

pub shows_alike : (rows : Rows) (s t : Ideal) (name : Bytes) → device_named t name ≡ device_named s name
    → ((identifier : Bytes) → account_named t identifier ≡ account_named s identifier)
    → ((uuid : Bytes) → draft_at t name uuid ≡ draft_at s name uuid) → ShowsDevice rows s name → ShowsDevice rows t name
shows_alike rows s t name device accounts same h =
    subst (λ (found : Option Device). ShowsDeviceAs rows t name found) (sym device) (at (device_named s name) h)
  where
    at : (found : Option Device) → ShowsDeviceAs rows s name found → ShowsDeviceAs rows t name found
    at None shown = record { none = shown.none; no_draft = λ uuid. same uuid ∙ shown.no_draft uuid }
    at (Some d) shown = (shown.0, accounts d.account ∙ shown.1, holder_alike rows s t name d shown.0 same shown.2)

-- between the rows of a device and those of a device that has an account

pub holder_of : (rows : Rows) (s : Ideal) (name : Bytes) (d : Device) (a : Account) → ShowsDevice rows s name → HasAccount s name d a → ShowsHolder rows s name d a
holder_of rows s name d a h has =
    let shown : ShowsDeviceAs rows s name (Some d) = subst (λ (found : Option Device). ShowsDeviceAs rows s name found) has.device h in
    let there : account_named s d.account ≡ Some shown.0 = shown.1 in
    let named : account_named s d.account ≡ Some a = has.account in
    let same : shown.0 ≡ a = cc in
    subst (λ (b : Account). ShowsHolder rows s name d b) same shown.2

pub shows_of : (rows : Rows) (t : Ideal) (name : Bytes) (d : Device) (a : Account) → HasAccount t name d a → ShowsHolder rows t name d a → ShowsDevice rows t name
shows_of rows t name d a has h =
    subst (λ (found : Option Device). ShowsDeviceAs rows t name found) (sym has.device) (a, has.account, h)

-- what a row stands on that wasn't sealed anew opens under its version's own set

pub opens_own : (a : Account) (number : ℕ) (item : LocalItem) (stamp : ℕ) → item.stale ≡ false → (h : IsBase a number item stamp)
    → OpensUnder a.sets h.listed.number item.uuid (sealed_of h.listed.strings) h.listed.text
opens_own a number item stamp fresh h =
    subst (λ (b : Bool). OpensBase a.sets number h.listed.number item.uuid h.listed.strings h.listed.text b) fresh h.opens

pub own_opens : (a : Account) (number : ℕ) (item : LocalItem) (stamp : ℕ) → item.stale ≡ false → (l : ListsBase a item stamp)
    → OpensUnder a.sets l.number item.uuid (sealed_of l.strings) l.text → IsBase a number item stamp
own_opens a number item stamp fresh l h =
    record { listed = l; opens = subst (λ (b : Bool). OpensBase a.sets number l.number item.uuid l.strings l.text b) (sym fresh) h }

-- a device that has a row has an account
pub holder_from : (rows : Rows) (s : Ideal) (name : Bytes) (key : Key) (v : Value) → ShowsDevice rows s name → rows key ≡ Some v
    → (d : Device) × (a : Account) × HasAccount s name d a
holder_from rows s name key v h stands = at (device_named s name) refl h
  where
    at : (found : Option Device) → device_named s name ≡ found → ShowsDeviceAs rows s name found → (d : Device) × (a : Account) × HasAccount s name d a
    at None e shown = let empty : rows key ≡ None = shown.none key in absurd (cc)
    at (Some d) e shown = (d, shown.0, record { device = e; account = shown.1 })
