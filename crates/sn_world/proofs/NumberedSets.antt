-- The sets that a device holds, as its account's: the present one is that of the greatest number that is held, and an older one that of a lesser.
use Rattle.std.proofs.Common.{◌≡◌, ◌≢◌, ◌⊎◌, ◌<◌, ◌≤◌, ℕ, List, [], ◌∷◌, length, Option, Some, None, refl, sym, ap, ◌∙◌, subst, inl, inr, ⊎_elim, arith}
use Rattle.std.proofs.lemmas.Bool.Decides.{nat_tests}
use Rattle.sn_device.specs.States.{HasSets, IsInSlot}
use Rattle.sn_items.specs.Items.{OpensItem}
use Rattle.sn_items.specs.declared.sealed.Sealed.{Sealed}
use Rattle.sn_laws.proofs.Facts.{one_there}
use Rattle.sn_laws.specs.Each.{Each, One}
use Rattle.sn_laws.specs.Lookups.{Bytes, greatest}
use Rattle.sn_laws.specs.Reached.{IsOneOrTwo}
use Rattle.sn_laws.specs.declared.ideal.Account.{Account}
use Rattle.sn_laws.specs.declared.ideal.Device.{Device}
use Rattle.sn_laws.specs.declared.ideal.Ideal.{Ideal}
use Rattle.sn_rows.specs.Table.{Rows}
use Rattle.sn_rows.specs.declared.device_rows.OwnerRow.{OwnerRow}
use Rattle.sn_rows.specs.declared.device_rows.SetRow.{SetRow}
use Rattle.sn_rows.specs.declared.key.Key.TheVariants as key
use Rattle.sn_rows.specs.declared.key.Slot.TheVariants.{Older}
use Rattle.sn_rows.specs.declared.value.Value.TheVariants as value
use Rattle.sn_sets.specs.Sets.{OpensHeld, OpensNot}
use Rattle.sn_sets.specs.declared.sets.Sets.{Sets}
use Rattle.sn_shows.proofs.Facts.{greatest_of_one, greatest_of_two}
use Rattle.sn_shows.specs.Devices.{IsSetRow, ShowsHolder, ShowsOlder}
use Rattle.sn_shows.specs.Sets.{OpensUnder, set_at}
use Rattle.sn_string.specs.declared.params.KeySet.{KeySet}
use Rattle.sn_world.proofs.DeviceSets.{identifier_of, one_set_row, present_at, set_of_row}
use Rattle.sn_world.proofs.Items.{apart_numbers}
use Rattle.sn_world.specs.Settling.{OneSet}

-- the sets are the account's: the present one is of the greatest number that is held, and an older one of none above it
pub record AreHeld (a : Account) (held : List ℕ) (sets : Sets) : Type 0 where
  pub one_set : OneSet a.sets
  pub present : set_at (greatest 0 held) a.sets ≡ Some sets.present
  pub older : (set : KeySet) → sets.older ≡ Some set → (k : ℕ) × (k ≤ greatest 0 held) × (set_at k a.sets ≡ Some set)

-- of this number the set is the present one or the older
abbrev pub IsHeldAs : List ℕ → Sets → ℕ → KeySet → Type 0
IsHeldAs held sets k set = (k ≡ greatest 0 held) ⊎ ((k < greatest 0 held) × (sets.older ≡ Some set))

-- as it is of each number that is held
abbrev pub HoldsEach : Account → List ℕ → Sets → Type 0
HoldsEach a held sets = (k : ℕ) (set : KeySet) → One (λ m. m ≡ k) held → set_at k a.sets ≡ Some set → IsHeldAs held sets k set

-- ---- they are

at_most : (o g : ℕ) → o ≤ greatest 0 (o ∷ g ∷ [])
at_most o g = grind (arith, nat_tests)

slot_is : (rows : Rows) (identifier : Bytes) (found : Option KeySet) (set : KeySet) → found ≡ Some set → IsInSlot rows identifier Older found
    → IsInSlot rows identifier Older (Some set)
slot_is rows identifier found set e h = subst (λ (o : Option KeySet). IsInSlot rows identifier Older o) e h

module _ (rows : Rows) (s : Ideal) (name : Bytes) (d : Device) (a : Account) (owner : OwnerRow) (sets : Sets) (holder : ShowsHolder rows s name d a)
    (holds : HasSets rows owner sets) where
  present : set_at (greatest 0 d.held) a.sets ≡ Some sets.present
  present = present_at rows s name d a owner sets holder holds

  own : owner.identifier ≡ a.identifier
  own = identifier_of rows s name d a owner holder holds.owned

  -- an older set stands in its slot only where two are held
  none_older : rows (key.Set Older) ≡ None → (set : KeySet) → sets.older ≡ Some set → ⊥
  none_older none set some =
      let slot = slot_is rows owner.identifier sets.older set some holds.before in
      let there : rows (key.Set Older) ≡ Some (value.Set slot.0) = slot.1 in
      cc

  -- of two the first is the older one
  module _ (o g : ℕ) (is : d.held ≡ o ∷ g ∷ []) where
    row : (row : SetRow) × (rows (key.Set Older) ≡ Some (value.Set row)) × IsSetRow a o row
    row = subst (ShowsOlder a (rows (key.Set Older))) is holder.older

    at_older : (set : KeySet) → sets.older ≡ Some set → set_at o a.sets ≡ Some set
    at_older set some =
        let slot = slot_is rows owner.identifier sets.older set some holds.before in
        let same : row.0 ≡ slot.0 = one_set_row row.0 slot.0 (rows (key.Set Older)) row.1 slot.1 in
        set_of_row a o slot.0 owner.identifier set own (subst (λ (r : SetRow). IsSetRow a o r) same row.2) slot.2

    older_is : (set : KeySet) → set_at o a.sets ≡ Some set → sets.older ≡ Some set
    older_is set at = by sets.older refl holds.before
      where
        by : (found : Option KeySet) → sets.older ≡ found → IsInSlot rows owner.identifier Older found → sets.older ≡ Some set
        by None e none =
            let there : rows (key.Set Older) ≡ Some (value.Set row.0) = row.1 in
            let nothing : rows (key.Set Older) ≡ None = none in
            absurd (cc)
        by (Some k) e slot = e ∙ ap Some (one_there k set (set_at o a.sets) (at_older k e) at)

  older_at : (set : KeySet) → sets.older ≡ Some set → (k : ℕ) × (k ≤ greatest 0 d.held) × (set_at k a.sets ≡ Some set)
  older_at set some = by d.held refl holder.older
    where
      by : (ns : List ℕ) → d.held ≡ ns → ShowsOlder a (rows (key.Set Older)) ns → (k : ℕ) × (k ≤ greatest 0 d.held) × (set_at k a.sets ≡ Some set)
      by [] e shown = absurd (none_older shown set some)
      by (g ∷ []) e shown = absurd (none_older shown set some)
      by (o ∷ g ∷ []) e shown = (o, subst (λ (ns : List ℕ). o ≤ greatest 0 ns) (sym e) (at_most o g), at_older o g e set some)
      by (o ∷ g ∷ m ∷ more) e shown = absurd (none_older shown set some)

  pub are_held : OneSet a.sets → AreHeld a d.held sets
  are_held one_set = record { one_set = one_set; present = present; older = older_at }

  pub holds_each : IsOneOrTwo (length a.sets) d.held → HoldsEach a d.held sets
  holds_each two k set one at = by d.held refl two
    where
      of_one : (g : ℕ) → d.held ≡ g ∷ [] → One (λ (m : ℕ). m ≡ k) (g ∷ []) → IsHeldAs d.held sets k set
      of_one g e among = inl (⊎_elim (λ (same : g ≡ k). sym same ∙ sym (ap (greatest 0) e ∙ greatest_of_one g)) (λ no. absurd no) among)

      of_two : (o g : ℕ) → d.held ≡ o ∷ g ∷ [] → o < g → One (λ (m : ℕ). m ≡ k) (o ∷ g ∷ [])
          → IsHeldAs d.held sets k set
      of_two o g e less among =
          let great : greatest 0 d.held ≡ g = ap (greatest 0) e ∙ greatest_of_two o g less in
          ⊎_elim
          (λ (same : o ≡ k).
          inr (
            subst (λ (m : ℕ). m < greatest 0 d.held) same (subst (λ (m : ℕ). o < m) (sym great) less),
            older_is o g e set (subst (λ (m : ℕ). set_at m a.sets ≡ Some set) (sym same) at),
          ))
          (λ rest. inl (⊎_elim (λ (same : g ≡ k). sym same ∙ sym great) (λ no. absurd no) rest)) among

      by : (ns : List ℕ) → d.held ≡ ns → IsOneOrTwo (length a.sets) ns → IsHeldAs d.held sets k set
      by [] e is = absurd is
      by (g ∷ []) e is = of_one g e (subst (One (λ (m : ℕ). m ≡ k)) e one)
      by (o ∷ g ∷ []) e is = of_two o g e is.1 (subst (One (λ (m : ℕ). m ≡ k)) e one)
      by (o ∷ g ∷ m ∷ more) e is = absurd is

-- ---- what opens under them

module _ (a : Account) (held : List ℕ) (sets : Sets) (h : AreHeld a held sets) where
  abbrev g : ℕ
  g = greatest 0 held

  -- under the greatest number: the present set opens it
  pub opened_present : (uuid : Bytes) (sealed : Sealed) (text : Bytes) → OpensUnder a.sets g uuid sealed text → OpensItem sealed uuid sets.present text
  opened_present uuid sealed text o =
      subst (λ (z : KeySet). OpensItem sealed uuid z text) (one_there o.set sets.present (set_at g a.sets) o.at h.present) o.opens

  -- under a lesser one the present set doesn't
  pub not_present : (k : ℕ) (uuid : Bytes) (sealed : Sealed) (text : Bytes) → k < g → OpensUnder a.sets k uuid sealed text → OpensNot sets.present uuid sealed
  not_present k uuid sealed text less o other opens =
      let same : k ≡ g = h.one_set sealed uuid k g text other o (record { set = sets.present; at = h.present; opens = opens }) in
      absurd (omega (arith, same, less))

  -- under any that is held one of them does
  pub opened_held : HoldsEach a held sets → (k : ℕ) (uuid : Bytes) (sealed : Sealed) (text : Bytes) → One (λ m. m ≡ k) held
      → OpensUnder a.sets k uuid sealed text
      → OpensHeld sets uuid sealed text
  opened_held each k uuid sealed text one o =
      ⊎_elim
      (λ (same : k ≡ g). inl (opened_present uuid sealed text (subst (λ (m : ℕ). OpensUnder a.sets m uuid sealed text) same o)))
      (λ (older : (k < g) × (sets.older ≡ Some o.set)).
      inr (record { not_present = not_present k uuid sealed text older.0 o; set = o.set; held = older.1; opens = o.opens })) (each k o.set one o.at)

-- ---- a number is held or not

pub among_or_not : (k : ℕ) (held : List ℕ) → One (λ m. m ≡ k) held ⊎ Each (λ m. m ≢ k) held
among_or_not k [] = inr tt
among_or_not k (m ∷ ms) =
    ⊎_elim (λ (same : m ≡ k). inl (inl same))
    (λ (off : m ≢ k). ⊎_elim (λ (one : One (λ (x : ℕ). x ≡ k) ms). inl (inr one)) (λ (none : Each (λ (x : ℕ). x ≢ k) ms). inr (off, none)) (among_or_not k ms))
    (apart_numbers m k)
