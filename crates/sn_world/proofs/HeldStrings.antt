-- Strings that open under the sets that a device holds: to the text that they have in its account.
use Rattle.std.proofs.Common.{◌≡◌, ℕ, List, [], ◌∷◌, Option, Some, sym, subst, inl, inr}
use Rattle.sn_device.specs.States.{HasSets, IsInSlot}
use Rattle.sn_items.specs.ItemLaws.{OneContent}
use Rattle.sn_items.specs.Items.{OpensItem}
use Rattle.sn_items.specs.declared.sealed.Sealed.{Sealed}
use Rattle.sn_laws.proofs.Facts.{one_there}
use Rattle.sn_laws.specs.Lookups.{Bytes, greatest}
use Rattle.sn_laws.specs.declared.ideal.Account.{Account}
use Rattle.sn_laws.specs.declared.ideal.Device.{Device}
use Rattle.sn_laws.specs.declared.ideal.Ideal.{Ideal}
use Rattle.sn_rows.specs.Table.{Rows}
use Rattle.sn_rows.specs.declared.device_rows.OwnerRow.{OwnerRow}
use Rattle.sn_rows.specs.declared.device_rows.SetRow.{SetRow}
use Rattle.sn_rows.specs.declared.key.Key.TheVariants as key
use Rattle.sn_rows.specs.declared.key.Slot.TheVariants.{Older}
use Rattle.sn_rows.specs.declared.value.Value.{Value}
use Rattle.sn_rows.specs.declared.value.Value.TheVariants as value
use Rattle.sn_sets.specs.Sets.{OpensHeld}
use Rattle.sn_sets.specs.declared.sets.Sets.{Sets}
use Rattle.sn_shows.specs.Devices.{IsSetRow, ShowsHolder, ShowsOlder}
use Rattle.sn_shows.specs.Sets.{OpensUnder, set_at}
use Rattle.sn_string.specs.declared.params.KeySet.{KeySet}
use Rattle.sn_world.proofs.DeviceSets.{identifier_of, one_set_row, present_at, set_of_row}
use Rattle.sn_world.specs.Settling.{OneSet}

-- under whatever sets of the account strings open, they open to one text
pub one_open : (sets : List KeySet) (uuid : Bytes) (sealed : Sealed) (k m : ℕ) (a b : Bytes) → OneContent → OneSet sets → OpensUnder sets k uuid sealed a
    → OpensUnder sets m uuid sealed b → a ≡ b
one_open sets uuid sealed k m a b one_text one_set h r =
    let number : k ≡ m = one_set sealed uuid k m a b h r in
    let same : h.set ≡ r.set = one_there h.set r.set (set_at k sets) h.at (subst (λ (j : ℕ). set_at j sets ≡ Some r.set) (sym number) r.at) in
    one_text sealed uuid r.set a b (subst (λ (s : KeySet). OpensItem sealed uuid s a) same h.opens) r.opens

-- the older set is one of the account's
older_at : (a : Account) (found : Option Value) (held : List ℕ) (keys : SetRow) → ShowsOlder a found held → found ≡ Some (value.Set keys)
    → (k : ℕ) × IsSetRow a k keys
older_at a found (older ∷ present ∷ []) keys h e =
    (older, subst (λ (r : SetRow). IsSetRow a older r) (one_set_row h.0 keys found h.1 e) h.2)
older_at a found held keys h e = absurd (cc)

older_slot : (rows : Rows) (identifier : Bytes) (found : Option KeySet) (set : KeySet) → found ≡ Some set → IsInSlot rows identifier Older found
    → IsInSlot rows identifier Older (Some set)
older_slot rows identifier found set e h = subst (λ (o : Option KeySet). IsInSlot rows identifier Older o) e h

module _ (rows : Rows) (s : Ideal) (name : Bytes) (d : Device) (a : Account) (owner : OwnerRow) (sets : Sets) (holder : ShowsHolder rows s name d a)
    (holds : HasSets rows owner sets) where
  -- what opens under a set that is held opens under one of the account's
  pub held_under : (uuid : Bytes) (sealed : Sealed) (text : Bytes) → OpensHeld sets uuid sealed text → (k : ℕ) × OpensUnder a.sets k uuid sealed text
  held_under uuid sealed text (inl opens) =
      (greatest 0 d.held, record { set = sets.present; at = present_at rows s name d a owner sets holder holds; opens = opens })
  held_under uuid sealed text (inr older) =
      let slot = older_slot rows owner.identifier sets.older older.set older.held holds.before in
      let at = older_at a (rows (key.Set Older)) d.held slot.0 holder.older slot.1 in (
        at.0,
        record {
          set = older.set;
          at = set_of_row a at.0 slot.0 owner.identifier older.set (identifier_of rows s name d a owner holder holds.owned) at.1 slot.2;
          opens = older.opens;
        },
      )

  -- so the device opens it to the text that it has there
  pub held_text : OneContent → OneSet a.sets → (uuid : Bytes) (sealed : Sealed) (k : ℕ) (text other : Bytes) → OpensUnder a.sets k uuid sealed text
      → OpensHeld sets uuid sealed other → text ≡ other
  held_text one_text one_set uuid sealed k text other under held =
      let its = held_under uuid sealed other held in
      one_open a.sets uuid sealed k its.0 text other one_text one_set under its.1
