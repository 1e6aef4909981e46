-- A device at rest that may ask for a set has its account's versions under one set, the last; and they stay so while the account gets none.
use Rattle.std.proofs.Common.{◌≡◌, ◌<◌, ℕ, Bool, true, false, length, map, Option, Some, refl, sym, ap, ◌∙◌, subst, inl, ⊎_elim, arith}
use Rattle.std.specs.Prelude.{◌==◌}
use Rattle.sn_asked.specs.Resting.{FinishedStays, AtRestFinished}
use Rattle.sn_device.specs.Changing.{MayAsk}
use Rattle.sn_device.specs.States.{HasLocal, HasSets}
use Rattle.sn_finished.specs.Finished.{CarriesLast}
use Rattle.sn_items.specs.Items.{Carries, CarriesParams}
use Rattle.sn_laws.proofs.Facts.{number_same, one_there, same_number}
use Rattle.sn_laws.specs.Each.{Each}
use Rattle.sn_laws.specs.Laws.{Rises, VersionsRise}
use Rattle.sn_laws.specs.Lookups.{Bytes, account_named, device_named, greatest, last_of}
use Rattle.sn_laws.specs.Relation.{IsUnder}
use Rattle.sn_laws.specs.declared.ideal.Account.{Account}
use Rattle.sn_laws.specs.declared.ideal.Body.{Body}
use Rattle.sn_laws.specs.declared.ideal.Device.{Device}
use Rattle.sn_laws.specs.declared.ideal.Ideal.{Ideal}
use Rattle.sn_laws.specs.declared.ideal.Version.{Version}
use Rattle.sn_passwd.specs.Ends.{IsAtRest}
use Rattle.sn_ready.proofs.NoneRuns.{still_carries}
use Rattle.sn_rekey.specs.Carrying.{CarriesOther}
use Rattle.sn_rows.specs.declared.body.RowBody.{RowBody}
use Rattle.sn_rows.specs.declared.body.RowBody.TheVariants as row
use Rattle.sn_rows.specs.declared.device_rows.LocalItem.{LocalItem}
use Rattle.sn_rows.specs.declared.device_rows.OwnerRow.{OwnerRow}
use Rattle.sn_rows.specs.declared.key.Key.TheVariants as key
use Rattle.sn_rows.specs.declared.value.Value.TheVariants as value
use Rattle.sn_sets.specs.Sets.{sealed_of}
use Rattle.sn_sets.specs.declared.sets.Sets.{Sets}
use Rattle.sn_shows.proofs.Facts.{each_at, greatest_of_one, holder_from, holder_of, one_number}
use Rattle.sn_shows.specs.Devices.{IsBase, OpensBase, ShowsBase, ShowsHolder}
use Rattle.sn_shows.specs.Laws.{AccountsApart, HasAccount}
use Rattle.sn_shows.specs.Servers.{account_at}
use Rattle.sn_shows.specs.Sets.{OpensUnder, set_at}
use Rattle.sn_string.proofs.Facts.{one_reading}
use Rattle.sn_string.specs.Grammar.{Reading}
use Rattle.sn_string.specs.declared.params.Params.{Params}
use Rattle.sn_world.proofs.AtLast.{rises_last}
use Rattle.sn_world.proofs.Facts.{named_at, nonces_apart, present_at, trace_from}
use Rattle.sn_world.specs.Holds.{Holds}
use Rattle.sn_world.specs.Laws.{Keeps}
use Rattle.sn_world.specs.World.{World}

-- a text carries the parameters of one set
one_carried : (text : Bytes) (p q : Params) → CarriesParams text p → CarriesParams text q → p ≡ q
one_carried text p q h k =
    let same : h.reading ≡ k.reading = one_reading text h.reading k.reading h.reads k.reads in
    sym h.params_are ∙ ap (λ (r : Reading). r.params) same ∙ k.params_are

module _ (rise : VersionsRise) (secret : Bytes) (w : World) (s : Ideal) (h : Holds secret w s) (name : Bytes) (rest : IsAtRest (w.devices name) s name)
    (owner : OwnerRow) (sets : Sets) (holds : HasSets (w.devices name) owner sets) (may : MayAsk (w.devices name) sets) where
  abbrev d : Device
  d = rest.synced.device

  abbrev a : Account
  a = rest.synced.account

  abbrev g : ℕ
  g = greatest 0 d.held

  has : HasAccount s name d a
  has = rest.synced.has

  holder : ShowsHolder (w.devices name) s name d a
  holder = holder_of (w.devices name) s name d a (h.devices name) has

  there : (n : ℕ) × (account_at n s.accounts ≡ Some a)
  there = named_at s d.account a has.account

  present : set_at (length a.sets) a.sets ≡ Some sets.present
  present =
      subst (λ (k : ℕ). set_at k a.sets ≡ Some sets.present) (ap (greatest 0) rest.alone ∙ greatest_of_one (length a.sets))
      (present_at (w.devices name) s name d a owner sets holder holds)

  rising : Rises (map (λ (x : Version). x.stamp) a.versions)
  rising =
      each_at (λ (b : Account). Rises (map (λ (x : Version). x.stamp) b.versions)) s.accounts there.0 a
      (subst (λ (u : Ideal). Each (λ (b : Account). Rises (map (λ (x : Version). x.stamp) b.versions)) u.accounts) (sym h.reached.is)
      (rise h.reached.moves h.reached.legal)) there.1

  -- the strings of a row are of the present set
  last_number : (number : ℕ) (local : LocalItem) → HasLocal (w.devices name) number local → (stamp : ℕ) (base : IsBase a g local stamp)
      → base.listed.number ≡ length a.sets
  last_number number local stands stamp base = by (base.listed.number == length a.sets) refl
    where
      opens : OpensUnder a.sets base.listed.number local.uuid (sealed_of base.listed.strings) base.listed.text
      opens =
          subst (λ (flag : Bool). OpensBase a.sets g base.listed.number local.uuid base.listed.strings base.listed.text flag)
          (rest.none_stale number local stands)
          base.opens

      not_other : CarriesOther sets.present (Some (row.Sealed base.listed.strings)) → ⊥
      not_other other =
          may.none_runs.present number local stands
          (inl (subst (λ (b : Option RowBody). CarriesOther sets.present b) (sym base.listed.body_is) other))

      same : Carries (sealed_of base.listed.strings) sets.present.params → base.listed.number ≡ length a.sets
      same carries =
          one_number a.sets base.listed.number (length a.sets) opens.set sets.present (nonces_apart s h.reached there.0 a there.1) opens.at present
          (ap (λ (p : Params). p.pw_nonce)
          (one_carried base.listed.strings.content opens.set.params sets.present.params opens.opens.carries.content carries.content))

      by : (b : Bool) → (base.listed.number == length a.sets) ≡ b → base.listed.number ≡ length a.sets
      by true on = same_number base.listed.number (length a.sets) on
      by false off =
          absurd (not_other (λ carries. let on = number_same base.listed.number (length a.sets) (same carries) in cc))

  all_last : CarriesLast a
  all_last uuid v last live =
      let on = rest.synced.stand.each uuid v last live in
      let local : LocalItem = on.1 in
      let base : IsBase a g local v.stamp = subst (λ (o : Option ℕ). ShowsBase a g local o) on.3 (holder.locals on.0 local on.2.0).base in
      let listed = base.listed in
      let found : last_of local.uuid a.versions ≡ Some v = subst (λ (u : Bytes). last_of u a.versions ≡ Some v) (sym on.2.1) last in
      let same : listed.version ≡ v =
      ⊎_elim (λ (e : listed.version ≡ v). e)
      (λ (less : listed.version.stamp < v.stamp). absurd (let e : listed.version.stamp ≡ v.stamp = listed.stamp_is in omega arith))
      (rises_last local.uuid a.versions listed.version v rising listed.among listed.item_is found) in
      subst (λ (b : Body). IsUnder (length a.sets) b) (sym listed.live ∙ ap (λ (x : Version). x.body) same)
      (last_number on.0 local on.2.0 v.stamp base)

  pub resting_finished : (e : Device) (b : Account) → HasAccount s name e b → CarriesLast b
  resting_finished e b other =
      let device : d ≡ e = one_there d e (device_named s name) has.device other.device in
      let account : a ≡ b =
      one_there a b (account_named s e.account) (subst (λ (z : Device). account_named s z.account ≡ Some a) device has.account) other.account in
      subst CarriesLast account all_last

pub at_rest_finished : VersionsRise → AtRestFinished
at_rest_finished rise secret w s name owner sets h rest holds may = resting_finished rise secret w s h name rest owner sets holds may

pub finished_stays : AccountsApart → Keeps → FinishedStays
finished_stays apart keeps secret w next s name owner later steps moves differ h trace owned owned_later token last last_later finished e b has =
    let kept = trace_from keeps secret differ steps moves w next s h trace in
    let was = holder_from (w.devices name) s name key.Owner (value.Owner owner) (h.devices name) owned in
    still_carries apart secret differ w next s moves h kept.0 kept.1 name owner later owned owned_later token last last_later was.0 was.1 was.2 e b has
    (finished was.0 was.1 was.2)
