-- The rows of a device that has all versions of its account and no draft.
use Rattle.std.proofs.Common.{◌≡◌, ◌<◌, ℕ, map, Option, Some, None, refl, sym, ap, ◌∙◌, subst, ⊎_elim, arith}
use Rattle.std.specs.Prelude.{IsSome}
use Rattle.sn_device.specs.States.{HasLocal}
use Rattle.sn_laws.specs.Each.{Each}
use Rattle.sn_laws.specs.Laws.{Rises, VersionsRise}
use Rattle.sn_laws.specs.Lookups.{Bytes, draft_at, greatest, last_of}
use Rattle.sn_laws.specs.Relation.{IsLive}
use Rattle.sn_laws.specs.declared.ideal.Account.{Account}
use Rattle.sn_laws.specs.declared.ideal.Body.{Body}
use Rattle.sn_laws.specs.declared.ideal.Body.TheVariants.{Gone, Under}
use Rattle.sn_laws.specs.declared.ideal.Device.{Device}
use Rattle.sn_laws.specs.declared.ideal.Draft.{Draft}
use Rattle.sn_laws.specs.declared.ideal.Ideal.{Ideal}
use Rattle.sn_laws.specs.declared.ideal.Version.{Version}
use Rattle.sn_rows.specs.Table.{Rows}
use Rattle.sn_rows.specs.declared.body.RowBody.{RowBody}
use Rattle.sn_rows.specs.declared.device_rows.LocalItem.{LocalItem}
use Rattle.sn_rows.specs.declared.key.Key.TheVariants as key
use Rattle.sn_shows.proofs.Facts.{holder_of}
use Rattle.sn_shows.specs.Devices.{IsBase, ShowsBase, ShowsDrafted, ShowsHolder, ShowsLocal}
use Rattle.sn_shows.specs.Laws.{HasAccount}
use Rattle.sn_shows.specs.Servers.{account_at}
use Rattle.sn_world.proofs.DeviceRows.{one_local}
use Rattle.sn_world.proofs.Lasts.{has_last}
use Rattle.sn_world.proofs.AtLast.{rises_last}
use Rattle.sn_world.proofs.ShowsLemmas.{each_at}
use Rattle.sn_world.proofs.Tokens.{named_at, named_identifier}
use Rattle.sn_world.specs.Holds.{Holds}
use Rattle.sn_world.specs.Laws.{SyncedRows}
use Rattle.sn_world.specs.Pulled.{HasAll, HasBase, PulledAt, StandOnLasts}
use Rattle.sn_world.specs.World.{World}

nothing : IsSome {T = RowBody} None → ⊥
nothing h = absurd (cc)

module _ (rise : VersionsRise) (secret : Bytes) (w : World) (s : Ideal) (name : Bytes) (d : Device) (a : Account) (h : Holds secret w s) (has : HasAccount s name d a)
    (undrafted : (uuid : Bytes) → draft_at s name uuid ≡ None) (x : HasAll (w.devices name) s name) where
  abbrev rows : Rows
  rows = w.devices name

  holder : ShowsHolder rows s name d a
  holder = holder_of rows s name d a (h.devices name) has

  at : (n : ℕ) × (account_at n s.accounts ≡ Some a)
  at = named_at s d.account a has.account

  pulled : (uuid : Bytes) → PulledAt rows a x.stamp uuid
  pulled = h.pulled name d at.0 a x.owner x.text x.stamp has.device at.1 (named_identifier s d.account a has.account) x.has x.token x.is

  rising : Rises (map (λ (v : Version). v.stamp) a.versions)
  rising =
      each_at (λ (b : Account). Rises (map (λ (v : Version). v.stamp) b.versions)) s.accounts at.0 a
      (subst (λ (t : Ideal). Each (λ (b : Account). Rises (map (λ (v : Version). v.stamp) b.versions)) t.accounts) (sym h.reached.is) (rise h.reached.moves h.reached.legal)) at.1

  -- the version that a row stands on is its item's last one where their stamps are the same
  kind_is : (local : LocalItem) (v : Version) → last_of local.uuid a.versions ≡ Some v → IsBase a (greatest 0 d.held) local v.stamp → local.kind ≡ v.kind
  kind_is local v last base =
      ⊎_elim (λ (same : base.listed.version ≡ v). sym base.listed.kind_is ∙ ap (λ (y : Version). y.kind) same)
      (λ (less : base.listed.version.stamp < v.stamp). let is : base.listed.version.stamp ≡ v.stamp = base.listed.stamp_is in absurd (omega arith))
      (rises_last local.uuid a.versions base.listed.version v rising base.listed.among base.listed.item_is last)

  on_last : (uuid : Bytes) (v : Version) → last_of uuid a.versions ≡ Some v → (base : HasBase rows uuid v.stamp) → base.1.kind ≡ v.kind
  on_last uuid v last (number, local, stands, base) =
      kind_is local v (ap (λ (u : Bytes). last_of u a.versions) stands.1 ∙ last)
      (subst (λ (o : Option ℕ). ShowsBase a (greatest 0 d.held) local o) base (holder.locals number local stands.0).base)

  -- a row stands on a version
  based : (local : LocalItem) → ShowsLocal s name (greatest 0 d.held) a local → (stamp : ℕ) × (local.base ≡ Some stamp) × IsBase a (greatest 0 d.held) local stamp
  based local shown = by local.base refl shown.base
    where
      none : local.latest ≡ None
      none = (subst (λ (o : Option Draft). ShowsDrafted a.sets (greatest 0 d.held) local o) (undrafted local.uuid) shown.draft).0

      by : (base : Option ℕ) → local.base ≡ base → ShowsBase a (greatest 0 d.held) local base → (stamp : ℕ) × (local.base ≡ Some stamp) × IsBase a (greatest 0 d.held) local stamp
      by None e k = absurd (nothing (subst (λ (o : Option RowBody). IsSome o) none k.1))
      by (Some stamp) e k = (stamp, e, k)

  no_other : (number : ℕ) (local : LocalItem) → HasLocal rows number local
      → (v : Version) × (last_of local.uuid a.versions ≡ Some v) × IsLive v.body × (local.base ≡ Some v.stamp)
  no_other number local stands =
      let base = based local (holder.locals number local stands) in
      let last = has_last local.uuid a.versions base.2.listed.version base.2.listed.among base.2.listed.item_is in
      by last.0 last.1 base.0 base.1 last.0.body refl
    where
      by : (v : Version) → last_of local.uuid a.versions ≡ Some v → (stamp : ℕ) → local.base ≡ Some stamp → (b : Body) → v.body ≡ b
          → (y : Version) × (last_of local.uuid a.versions ≡ Some y) × IsLive y.body × (local.base ≡ Some y.stamp)
      by v last stamp base (Under text set) is =
          let live : IsLive v.body = subst (λ (z : Body). IsLive z) (sym is) tt in
          let its : HasBase rows local.uuid v.stamp = (pulled local.uuid).live v last (x.all d a local.uuid v has last) live in
          let number_same : its.0 ≡ number = holder.once its.0 number its.1 local its.2.0 stands its.2.1 in
          let same : its.1 ≡ local = one_local its.1 local (rows (key.Local number)) (subst (λ (k : ℕ). HasLocal rows k its.1) number_same its.2.0) stands in
          (v, last, live, subst (λ (l : LocalItem). l.base ≡ Some v.stamp) same its.3)
      by v last stamp base Gone is =
          let none : local.base ≡ None =
          (pulled local.uuid).gone v last (x.all d a local.uuid v has last) (λ live. subst (λ (z : Body). IsLive z) is live) number local (stands, refl) in
          absurd (cc)

  synced : StandOnLasts rows a
  synced = record {
    each = λ uuid v last live.
        let base = (pulled uuid).live v last (x.all d a uuid v has last) live in
        (base.0, base.1, base.2, base.3, on_last uuid v last base);
    no_other = no_other;
  }

pub synced_rows : VersionsRise → SyncedRows
synced_rows rise secret w s name d a h has undrafted x = synced rise secret w s name d a h has undrafted x
