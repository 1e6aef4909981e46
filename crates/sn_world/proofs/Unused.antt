-- A set that no row of a device needs any more, where the device has all versions of its account: no last version carries it, so it may be retired.
use Rattle.std.proofs.Common.{◌≡◌, ◌<◌, ℕ, List, [], ◌∷◌, map, Option, Some, Bool, true, false, refl, sym, ap, ◌∙◌, subst, inl, inr, ⊎_elim, arith}
use Rattle.std.specs.Prelude.{IsTrue}
use Rattle.sn_adopted.specs.Moves.{OlderStale}
use Rattle.sn_device.specs.States.{HasItem}
use Rattle.sn_device.specs.Steps.{AllFinished}
use Rattle.sn_laws.proofs.Facts.{allowed_to}
use Rattle.sn_laws.specs.Each.{Each, One}
use Rattle.sn_laws.specs.Laws.{Rises, VersionsRise}
use Rattle.sn_laws.specs.Lookups.{Bytes, device_named, greatest, held_by, last_of}
use Rattle.sn_laws.specs.Moves.{allows}
use Rattle.sn_laws.specs.Relation.{IsLive, IsUnder}
use Rattle.sn_laws.specs.declared.ideal.Account.{Account}
use Rattle.sn_laws.specs.declared.ideal.Body.{Body}
use Rattle.sn_laws.specs.declared.ideal.Body.TheVariants.{Under, Gone}
use Rattle.sn_laws.specs.declared.ideal.Device.{Device}
use Rattle.sn_laws.specs.declared.ideal.Ideal.{Ideal}
use Rattle.sn_laws.specs.declared.ideal.Version.{Version}
use Rattle.sn_laws.specs.declared.moves.Move.TheVariants.{Retire}
use Rattle.sn_rows.specs.Table.{Rows}
use Rattle.sn_rows.specs.declared.device_rows.LocalItem.{LocalItem}
use Rattle.sn_shows.proofs.Facts.{each_at, holder_of}
use Rattle.sn_shows.specs.Devices.{IsBase, OpensBase, ShowsBase, ShowsDevice}
use Rattle.sn_shows.specs.Laws.{HasAccount}
use Rattle.sn_shows.specs.Servers.{account_at}
use Rattle.sn_string.specs.declared.params.KeySet.{KeySet}
use Rattle.sn_world.proofs.AtLast.{rises_last}
use Rattle.sn_world.proofs.DeviceSets.{account_is}
use Rattle.sn_world.specs.Holds.{Reached}
use Rattle.sn_world.specs.Pulled.{HasBase}

under_live : (k : ℕ) (b : Body) → IsUnder k b → IsLive b
under_live k (Under text m) is = tt
under_live k Gone is = absurd is

module _ (rise : VersionsRise) (rows : Rows) (s : Ideal) (name : Bytes) (n : ℕ) (a : Account) (d : Device) (r : Reached s)
    (at : account_at n s.accounts ≡ Some a)
    (shows : ShowsDevice rows s name) (has : HasAccount s name d a) (older present : ℕ) (two : d.held ≡ older ∷ present ∷ []) (less : older < present)
    (stale : OlderStale rows a (older ∷ present ∷ [])) (set : KeySet) (finished : AllFinished rows set)
    (whole : (uuid : Bytes) (v : Version) → last_of uuid a.versions ≡ Some v → IsLive v.body → HasBase rows uuid v.stamp) where
  abbrev g : ℕ
  g = greatest 0 d.held

  rising : Rises (map (λ (v : Version). v.stamp) a.versions)
  rising =
      each_at (λ (b : Account). Rises (map (λ (v : Version). v.stamp) b.versions)) s.accounts n a
      (subst (λ (t : Ideal). Each (λ (b : Account). Rises (map (λ (v : Version). v.stamp) b.versions)) t.accounts) (sym r.is) (rise r.moves r.legal)) at

  -- the row that stands on a last version of the older set would be stale
  module _ (uuid : Bytes) (v : Version) (last : last_of uuid a.versions ≡ Some v) (under : IsUnder older v.body) (number : ℕ) (local : LocalItem)
      (stands : HasItem rows uuid number local) (base : IsBase a g local v.stamp) where
    version_is : base.listed.version ≡ v
    version_is =
        ⊎_elim (λ (same : base.listed.version ≡ v). same)
        (λ (lower : base.listed.version.stamp < v.stamp).
        let is : base.listed.version.stamp ≡ v.stamp = base.listed.stamp_is in absurd (omega (arith, lower, is)))
        (rises_last uuid a.versions base.listed.version v rising base.listed.among (base.listed.item_is ∙ stands.1) last)

    number_is : base.listed.number ≡ older
    number_is =
        let body : v.body ≡ Under base.listed.text base.listed.number = ap (λ (w : Version). w.body) (sym version_is) ∙ base.listed.live in
        subst (λ (b : Body). IsUnder older b) body under

    opens_not : (q : Bool) → local.stale ≡ q → OpensBase a.sets g base.listed.number local.uuid base.listed.strings base.listed.text q → ⊥
    opens_not true is opens = (finished number local stands.0).current is
    opens_not false is opens =
        (finished number local stands.0).current
        (stale number local base.listed.strings base.listed.text stands.0 base.listed.body_is
        (subst (λ (k : ℕ). OpensBase a.sets g k local.uuid base.listed.strings base.listed.text false) number_is opens))

    none : ⊥
    none = opens_not local.stale refl base.opens

  unused : (uuid : Bytes) (v : Version) → last_of uuid a.versions ≡ Some v → ¬ (IsUnder older v.body)
  unused uuid v last under =
      let row = whole uuid v last (under_live older v.body under) in
      none uuid v last under row.0 row.1 row.2
      (subst (λ (o : Option ℕ). ShowsBase a g row.1 o) row.3 ((holder_of rows s name d a shows has).locals row.0 row.1 row.2.0).base)

  held_is : held_by (device_named s name) ≡ older ∷ present ∷ []
  held_is = ap held_by has.device ∙ two

  pub retire_legal : IsTrue (allows s (Retire name older))
  retire_legal =
      allowed_to s (Retire name older)
      (record {
        account = a;
        has = account_is s name d a has;
        holds = subst (λ (ns : List ℕ). One (λ (m : ℕ). m ≡ older) ns) (sym held_is) (inl refl);
        greater = subst (λ (ns : List ℕ). One (λ (m : ℕ). older < m) ns) (sym held_is) (inr (inl less));
        unused = unused;
      })
