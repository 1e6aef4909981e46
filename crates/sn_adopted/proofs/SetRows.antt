-- The sets of a device's rows that show a state are the account's, of the numbers that the device holds.
use Rattle.std.proofs.Common.{◌≡◌, ℕ, [], ◌∷◌, Option, Some, None, refl, sym, ap, ◌∙◌, subst}
use Rattle.sn_device.specs.States.{HasOwner, HasSets, IsInSlot, IsSetOf}
use Rattle.sn_laws.proofs.Facts.{one_there}
use Rattle.sn_laws.specs.Lookups.{Bytes, greatest}
use Rattle.sn_laws.specs.declared.ideal.Account.{Account}
use Rattle.sn_laws.specs.declared.ideal.Device.{Device}
use Rattle.sn_laws.specs.declared.ideal.Ideal.{Ideal}
use Rattle.sn_rows.specs.Table.{Rows}
use Rattle.sn_rows.specs.declared.device_rows.OwnerRow.{OwnerRow}
use Rattle.sn_rows.specs.declared.device_rows.SetRow.{SetRow}
use Rattle.sn_rows.specs.declared.key.Key.TheVariants as key
use Rattle.sn_rows.specs.declared.key.Slot.TheVariants.{Older, Present}
use Rattle.sn_rows.specs.declared.value.Value.{Value}
use Rattle.sn_rows.specs.declared.value.Value.TheVariants as value
use Rattle.sn_sets.specs.declared.sets.Sets.{Sets}
use Rattle.sn_shows.specs.Devices.{IsSetRow, ShowsHolder, ShowsOlder}
use Rattle.sn_shows.specs.Sets.{set_at}
use Rattle.sn_string.proofs.Facts.{same_keys}
use Rattle.sn_string.specs.declared.params.KeySet.{KeySet}

pub one_owner : (x y : OwnerRow) (found : Option Value) → found ≡ Some (value.Owner x) → found ≡ Some (value.Owner y) → x ≡ y
one_owner x y found e k = cc

one_set_row : (x y : SetRow) (found : Option Value) → found ≡ Some (value.Set x) → found ≡ Some (value.Set y) → x ≡ y
one_set_row x y found e k = cc

pub identifier_of : (rows : Rows) (s : Ideal) (name : Bytes) (d : Device) (a : Account) (owner : OwnerRow) → ShowsHolder rows s name d a → HasOwner rows owner
    → owner.identifier ≡ a.identifier
identifier_of rows s name d a owner h owned =
    ap (λ (o : OwnerRow). o.identifier) (one_owner owner h.owner.owner (rows key.Owner) owned h.owner.stands) ∙ h.owner.identifier

-- a row that is the account's set of a number, and a set's row, is that set's
set_of_row : (a : Account) (number : ℕ) (row : SetRow) (identifier : Bytes) (set : KeySet) → identifier ≡ a.identifier → IsSetRow a number row
    → IsSetOf identifier row set → set_at number a.sets ≡ Some set
set_of_row a number row identifier set own is of =
    let same : is.set ≡ set = same_keys is.set set (is.identifier ∙ sym own ∙ sym of.identifier_is) (sym is.cost ∙ sym of.cost) (sym is.nonce ∙ sym of.nonce)
    (sym is.pw ∙ sym of.pw) (sym is.mk ∙ sym of.mk) (sym is.ak ∙ sym of.ak) in
    is.at ∙ ap Some same

pub row_of_set : (a : Account) (number : ℕ) (row : SetRow) (identifier : Bytes) (set : KeySet) → identifier ≡ a.identifier → set_at number a.sets ≡ Some set
    → IsSetOf identifier row set → IsSetRow a number row
row_of_set a number row identifier set own at of = record {
  set = set;
  at = at;
  identifier = of.identifier_is ∙ own;
  cost = sym of.cost;
  nonce = sym of.nonce;
  pw = sym of.pw;
  mk = sym of.mk;
  ak = sym of.ak;
}

module _ (rows : Rows) (s : Ideal) (name : Bytes) (d : Device) (a : Account) (owner : OwnerRow) (sets : Sets) (h : ShowsHolder rows s name d a)
    (has : HasSets rows owner sets) where
  own : owner.identifier ≡ a.identifier
  own = identifier_of rows s name d a owner h has.owned

  pub present_at : set_at (greatest 0 d.held) a.sets ≡ Some sets.present
  present_at =
      let slot = has.in_use in
      let same : h.present.row ≡ slot.0 = one_set_row h.present.row slot.0 (rows (key.Set Present)) h.present.stands slot.1 in
      set_of_row a (greatest 0 d.held) slot.0 owner.identifier sets.present own
      (subst (λ (r : SetRow). IsSetRow a (greatest 0 d.held) r) same h.present.is) slot.2

  -- of one set none is the older
  pub alone_none : (present : ℕ) → d.held ≡ present ∷ [] → sets.older ≡ None
  alone_none present alone = by sets.older refl has.before
    where
      none : rows (key.Set Older) ≡ None
      none = subst (ShowsOlder a (rows (key.Set Older))) alone h.older

      by : (found : Option KeySet) → sets.older ≡ found → IsInSlot rows owner.identifier Older found → sets.older ≡ None
      by None e slot = e
      by (Some set) e slot =
          let empty : rows (key.Set Older) ≡ None = none in
          let some : rows (key.Set Older) ≡ Some (value.Set slot.0) = slot.1 in
          absurd (cc)

  -- of two the first is
  pub older_at : (older present : ℕ) → d.held ≡ older ∷ present ∷ [] → (set : KeySet) → sets.older ≡ Some set → set_at older a.sets ≡ Some set
  older_at older present both set e = by (subst (IsInSlot rows owner.identifier Older) e has.before)
    where
      by : IsInSlot rows owner.identifier Older (Some set) → set_at older a.sets ≡ Some set
      by slot =
          let row = subst (ShowsOlder a (rows (key.Set Older))) both h.older in
          let same : row.0 ≡ slot.0 = one_set_row row.0 slot.0 (rows (key.Set Older)) row.1 slot.1 in
          set_of_row a older slot.0 owner.identifier set own (subst (λ (r : SetRow). IsSetRow a older r) same row.2) slot.2

  pub older_is : (older present : ℕ) → d.held ≡ older ∷ present ∷ [] → (set : KeySet) → set_at older a.sets ≡ Some set → sets.older ≡ Some set
  older_is older present both set at = by sets.older refl has.before
    where
      by : (found : Option KeySet) → sets.older ≡ found → IsInSlot rows owner.identifier Older found → sets.older ≡ Some set
      by None e slot =
          let row = subst (ShowsOlder a (rows (key.Set Older))) both h.older in
          let some : rows (key.Set Older) ≡ Some (value.Set row.0) = row.1 in
          let none : rows (key.Set Older) ≡ None = slot in
          absurd (cc)
      by (Some k) e slot = e ∙ ap Some (one_there k set (set_at older a.sets) (older_at older present both k e) at)
