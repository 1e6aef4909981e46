-- What the rows of a device in the world have of deletions; and that none adopts a set where each account has one.
use Rattle.std.proofs.Common.{◌≡◌, ◌≢◌, ◌<◌, ℕ, List, length, Option, Some, None, refl, ap, ◌∙◌, subst, arith}
use Rattle.sn_laws.specs.Lookups.{Bytes, device_named, draft_at, greatest}
use Rattle.sn_laws.specs.Reached.{DeletionsStay}
use Rattle.sn_laws.specs.declared.ideal.Content.{Content}
use Rattle.sn_laws.specs.declared.ideal.Content.TheVariants as content
use Rattle.sn_laws.specs.declared.ideal.Device.{Device}
use Rattle.sn_laws.specs.declared.ideal.Draft.{Draft}
use Rattle.sn_laws.specs.declared.ideal.Ideal.{Ideal}
use Rattle.sn_laws.specs.declared.ideal.Posted.{Posted}
use Rattle.sn_rows.specs.Table.{Rows}
use Rattle.sn_rows.specs.declared.body.RowBody.{RowBody}
use Rattle.sn_rows.specs.declared.body.RowBody.TheVariants as row
use Rattle.sn_rows.specs.declared.device_rows.LocalItem.{LocalItem}
use Rattle.sn_rows.specs.declared.key.Key.TheVariants as key
use Rattle.sn_shows.specs.Devices.{ShowsContent, ShowsDevice, ShowsDeviceAs, ShowsDrafted, ShowsPosted}
use Rattle.sn_shows.specs.Sets.{set_at}
use Rattle.sn_string.specs.declared.params.KeySet.{KeySet}
use Rattle.sn_world.specs.Committing.{MayAdopt}
use Rattle.sn_world.specs.Holds.{Reached}
use Rattle.sn_world.specs.Plain.{HoldsPlain}
use Rattle.sn_world.specs.World.{World}
use Rattle.sn_moves.specs.Laws.{KeepsDeletions}

content_deleted : (sets : List KeySet) (number : ℕ) (uuid : Bytes) (c : Content) → ShowsContent sets number uuid row.Deleted c → c ≡ content.Deleted
content_deleted sets number uuid (content.Plain text) h = absurd h
content_deleted sets number uuid content.Deleted h = refl

row_deleted : (sets : List KeySet) (number : ℕ) (uuid : Bytes) (b : RowBody) → ShowsContent sets number uuid b content.Deleted → b ≡ row.Deleted
row_deleted sets number uuid row.Deleted h = refl
row_deleted sets number uuid (row.Sealed strings) h = absurd h

sent_deleted : (sets : List KeySet) (number : ℕ) (uuid : Bytes) (found : Option RowBody) (posted : Option Posted) → found ≡ Some row.Deleted
    → ShowsPosted sets number uuid found posted → (p : Posted) × (posted ≡ Some p) × (p.content ≡ content.Deleted)
sent_deleted sets number uuid None posted is h = absurd (cc)
sent_deleted sets number uuid (Some b) None is h = absurd h
sent_deleted sets number uuid (Some b) (Some p) is h =
    let same : b ≡ row.Deleted = cc in
    (p, refl, content_deleted sets number uuid p.content (subst (λ (x : RowBody). ShowsContent sets number uuid x p.content) same h))

module _ (law : DeletionsStay) (rows : Rows) (s : Ideal) (reached : Reached s) (name : Bytes) where
  of_draft : (sets : List KeySet) (number : ℕ) (l : LocalItem) → l.posted ≡ Some row.Deleted → (found : Option Draft) → draft_at s name l.uuid ≡ found
      → ShowsDrafted sets number l found → l.latest ≡ Some row.Deleted
  of_draft sets number l sent None at shown = let none : l.posted ≡ None = shown.1 in absurd (cc)
  of_draft sets number l sent (Some d) at shown =
      let p = sent_deleted sets number l.uuid l.posted d.posted sent shown.posted in
      let latest : d.latest ≡ content.Deleted =
      law reached.moves name l.uuid d p.0 reached.legal (subst (λ (t : Ideal). draft_at t name l.uuid ≡ Some d) reached.is at) p.1 p.2 in
      shown.latest_is
      ∙ ap Some (row_deleted sets number l.uuid shown.latest (subst (λ (c : Content). ShowsContent sets number l.uuid shown.latest c) latest shown.content))

  of_device : (found : Option Device) → ShowsDeviceAs rows s name found → KeepsDeletions rows
  of_device None shown n l has sent = let none : rows (key.Local n) ≡ None = shown.none (key.Local n) in absurd (cc)
  of_device (Some d) (a, named, holder) n l has sent =
      of_draft a.sets (greatest 0 d.held) l sent (draft_at s name l.uuid) refl (holder.locals n l has).draft

  -- where a deletion was sent, the draft is one
  pub keeps_deletions : ShowsDevice rows s name → KeepsDeletions rows
  keeps_deletions shown = of_device (device_named s name) shown

-- ---- a device holds a set, and where it is the only one there is none above it

no_number : (k : ℕ) (sets : List KeySet) (set : KeySet) → set_at k sets ≡ Some set → k ≢ 0
no_number k sets set at none = let nothing : None ≡ Some set = subst (λ (j : ℕ). set_at j sets ≡ Some set) none at in absurd (cc)

holds_some : (rows : Rows) (s : Ideal) (name : Bytes) (found : Option Device) (d : Device) → found ≡ Some d → ShowsDeviceAs rows s name found
    → greatest 0 d.held ≢ 0
holds_some rows s name None d is shown = absurd (cc)
holds_some rows s name (Some e) d is (a, named, holder) =
    let same : e ≡ d = cc in
    subst (λ (x : Device). greatest 0 x.held ≢ 0) same
    (no_number (greatest 0 e.held) a.sets holder.present.is.set holder.present.is.at)

pub none_adopts : (secret : Bytes) (w : World) (s : Ideal) (name : Bytes) (set : KeySet) (token : Bytes) → HoldsPlain secret w s
    → MayAdopt secret s name set token → ⊥
none_adopts secret w s name set token h may =
    let one : length may.account.sets ≡ 1 = h.plain.one_set may.number may.account may.at in
    let above : greatest 0 may.device.held < length may.account.sets = may.above in
    let none : greatest 0 may.device.held ≡ 0 = omega arith in
    holds_some (w.devices name) s name (device_named s name) may.device may.named (h.holds.devices name) none
