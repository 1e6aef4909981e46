-- The rows of a device at the end of an applied answer, where its older set may go.
use Rattle.std.proofs.Common.{◌≡◌, ◌<◌, ℕ, List, [], ◌∷◌, Option, Some, None, refl, sym, subst, inl, inr}
use Rattle.std.specs.Prelude.{length}
use Rattle.sn_device.specs.States.{IsInSlot}
use Rattle.sn_device.specs.Steps.{Retires}
use Rattle.sn_laws.specs.Lookups.{Bytes}
use Rattle.sn_laws.specs.Moves.{after}
use Rattle.sn_laws.specs.Reached.{IsOneOrTwo}
use Rattle.sn_laws.specs.Runs.{end_from}
use Rattle.sn_laws.specs.declared.ideal.Account.{Account}
use Rattle.sn_laws.specs.declared.ideal.Device.{Device}
use Rattle.sn_laws.specs.declared.ideal.Ideal.{Ideal}
use Rattle.sn_laws.specs.declared.moves.Move.{Move}
use Rattle.sn_laws.specs.declared.moves.Move.TheVariants.{Retire}
use Rattle.sn_rows.specs.Table.{Rows, rows_after}
use Rattle.sn_rows.specs.declared.change.Change.{Change}
use Rattle.sn_rows.specs.declared.key.Key.TheVariants as key
use Rattle.sn_rows.specs.declared.key.Slot.TheVariants.{Older}
use Rattle.sn_rows.specs.declared.value.Value.TheVariants as value
use Rattle.sn_shows.proofs.Facts.{holder_of, retired_shows}
use Rattle.sn_shows.specs.Devices.{ShowsDevice, ShowsOlder}
use Rattle.sn_shows.specs.Laws.{HasAccount}
use Rattle.sn_string.specs.declared.params.KeySet.{KeySet}
use Rattle.sn_adopted.specs.Laws.{RetireShows}
use Rattle.sn_adopted.specs.Moves.{IsRetiring}

module _ (told rows : Rows) (cursor : Option Bytes) (changes : List Change) (s : Ideal) (name identifier : Bytes) (d : Device) (a : Account)
    (h : ShowsDevice rows s name) (has : HasAccount s name d a) (held : IsOneOrTwo (length a.sets) d.held) where
  abbrev Ends : Option KeySet → Type 0
  Ends older = (moves : List Move) × IsRetiring told cursor older name d.held moves × ShowsDevice (rows_after rows changes) (end_from s moves) name

  -- nothing is changed, and no move is made
  stays : changes ≡ [] → ShowsDevice (rows_after rows changes) (end_from s []) name
  stays e = subst (λ (cs : List Change). ShowsDevice (rows_after rows cs) s name) (sym e) h

  -- an older set stands in its slot only where two are held
  are_two : (set : KeySet) → IsInSlot rows identifier Older (Some set) → (older : ℕ) × (present : ℕ) × (d.held ≡ older ∷ present ∷ []) × (older < present)
  are_two set slot = by d.held refl held (holder_of rows s name d a h has).older
    where
      some : rows (key.Set Older) ≡ Some (value.Set slot.0)
      some = slot.1

      by : (ns : List ℕ) → d.held ≡ ns → IsOneOrTwo (length a.sets) ns → ShowsOlder a (rows (key.Set Older)) ns
          → (older : ℕ) × (present : ℕ) × (d.held ≡ older ∷ present ∷ []) × (older < present)
      by [] e are shown = absurd are
      by (present ∷ []) e are shown = let none : rows (key.Set Older) ≡ None = shown in absurd (cc)
      by (older ∷ present ∷ []) e are shown = (older, present, e, are.1)
      by (older ∷ present ∷ m ∷ more) e are shown = absurd are

  ends_some : (set : KeySet) → IsInSlot rows identifier Older (Some set) → Retires told cursor (Some set) changes → Ends (Some set)
  ends_some set slot (inl (may, (change, removes, e))) =
      let two = are_two set slot in
      let shown : ShowsDevice (rows_after rows (change ∷ [])) (after s (Retire name two.0)) name =
      retired_shows rows s name d a two.0 two.1 change h has two.2 two.3 removes in (
        Retire name two.0 ∷ [],
        inl (may, (two.0, two.1, two.2, refl)),
        subst (λ (cs : List Change). ShowsDevice (rows_after rows cs) (after s (Retire name two.0)) name) (sym e) shown,
      )
  ends_some set slot (inr (may_not, e)) = ([], inr (may_not, refl), stays e)

  ends : (older : Option KeySet) → IsInSlot rows identifier Older older → Retires told cursor older changes → Ends older
  ends None slot e = ([], refl, stays e)
  ends (Some set) slot r = ends_some set slot r

pub retire_shows : RetireShows
retire_shows told rows cursor older changes s name identifier d a h has held slot r =
    ends told rows cursor changes s name identifier d a h has held older slot r
