-- What a device holds, by the rows that show it.
use Rattle.std.proofs.Common.{◌≡◌, ◌<◌, ◌≤◌, ℕ, suc, List, [], ◌∷◌, ◌++◌, length, Option, Some, None, Bool, refl, sym, ap, ◌∙◌, subst}
use Rattle.std.specs.Prelude.{IfSome, if◌then◌else◌, nat_lt}
use Rattle.sn_laws.proofs.Facts.{found_passes, is_below}
use Rattle.sn_laws.specs.Lookups.{Bytes, account_for, account_named, account_of, device_named, greatest, is_account}
use Rattle.sn_laws.specs.Reached.{HoldsSets, IsOneOrTwo}
use Rattle.sn_laws.specs.declared.ideal.Account.{Account}
use Rattle.sn_laws.specs.declared.ideal.Device.{Device}
use Rattle.sn_laws.specs.declared.ideal.Ideal.{Ideal}
use Rattle.sn_rows.specs.Table.{Rows}
use Rattle.sn_rows.specs.declared.device_rows.OwnerRow.{OwnerRow}
use Rattle.sn_rows.specs.declared.device_rows.SetRow.{SetRow}
use Rattle.sn_rows.specs.declared.key.Key.TheVariants as key
use Rattle.sn_rows.specs.declared.key.Slot.TheVariants.{Present, Older}
use Rattle.sn_rows.specs.declared.value.Value.{Value}
use Rattle.sn_rows.specs.declared.value.Value.TheVariants as value
use Rattle.sn_shows.specs.Devices.{IsSetRow, ShowsDevice, ShowsDeviceAs, ShowsHolder, ShowsOlder, ShowsPresent}
use Rattle.sn_shows.specs.Servers.{account_at}
use Rattle.sn_shows.specs.Sets.{set_at}
use Rattle.sn_string.proofs.Facts.{same_keys}
use Rattle.sn_string.specs.declared.params.KeySet.{KeySet}
use Rattle.sn_shown.specs.Held.{AreAccountNumbers, IsHolding, IsNumbered, IsOfSlot, IsSetOf, number_of, numbers_of}
use Rattle.sn_shown.specs.Rows.{owner_in, set_in}
use Rattle.sn_shown.specs.declared.holding.HeldSet.{HeldSet}
use Rattle.sn_shown.specs.declared.holding.Holding.{Holding}
use Rattle.sn_shown.proofs.Finds.{account_identifier, never, one_found}
use Rattle.sn_shown.proofs.PlaceLemmas.{place_of}

-- ---- one set

-- a set is the one that a device's rows stand for
same_set : (a : Account) (number : ℕ) (owner : OwnerRow) (row : SetRow) (set : KeySet) → owner.identifier ≡ a.identifier → (is : IsSetRow a number row)
    → IsSetOf owner row set → set ≡ is.set
same_set a number owner row set own is of =
    same_keys set is.set (of.identifier ∙ own ∙ sym is.identifier) (of.cost ∙ is.cost) (of.nonce ∙ is.nonce) (of.pw ∙ is.pw) (of.mk ∙ is.mk) (of.ak ∙ is.ak)

pub numbered : (a : Account) (owner : OwnerRow) (row : SetRow) (found : ℕ) (set : KeySet) → owner.identifier ≡ a.identifier → IsSetOf owner row set
    → ((number : ℕ) (k : KeySet) → set_at number a.sets ≡ Some k → row.pw_nonce ≡ k.params.pw_nonce → found ≡ number)
    → (number : ℕ) → IsSetRow a number row → IsNumbered a number (Some (record { number = found; set = set }))
numbered a owner row found set own of asked number is =
    let same : set ≡ is.set = same_set a number owner row set own is of in
    record {
      found = record { number = found; set = set };
      is = refl;
      number_is = asked number is.set is.at is.nonce;
      at = is.at ∙ ap (λ (k : KeySet). Some k) (sym same);
      identifier = ap (λ (k : KeySet). k.params.identifier) same ∙ is.identifier;
    }

-- ---- the greatest of one or two numbers

first_chosen : (g : ℕ) → 1 ≤ g → (if nat_lt 0 g then g else 0) ≡ g
first_chosen g low = ap (λ (b : Bool). if b then g else 0) (is_below 0 g low)

one_greatest : (g : ℕ) → 1 ≤ g → greatest 0 (g ∷ []) ≡ g
one_greatest g low = first_chosen g low

two_greatest : (o g : ℕ) → 1 ≤ o → o < g → greatest 0 (o ∷ g ∷ []) ≡ g
two_greatest o g low less =
    ap (λ (n : ℕ). if nat_lt n g then g else n) (first_chosen o low) ∙ ap (λ (b : Bool). if b then g else o) (is_below o g less)

-- ---- a device that has an account

pub record Owned (rows : Rows) (s : Ideal) (name : Bytes) (d : Device) : Type 0 where
  pub account : Account
  pub named : account_named s d.account ≡ Some account
  pub holder : ShowsHolder rows s name d account

pub owned_by : (rows : Rows) (s : Ideal) (name : Bytes) (d : Device) → ShowsDevice rows s name → device_named s name ≡ Some d → Owned rows s name d
owned_by rows s name d h e =
    let shown : ShowsDeviceAs rows s name (Some d) = subst (λ (found : Option Device). ShowsDeviceAs rows s name found) e h in
    record { account = shown.0; named = shown.1; holder = shown.2 }

pub has_account : (rows : Rows) (s : Ideal) (name : Bytes) (d : Device) (o : Owned rows s name d) → device_named s name ≡ Some d
    → account_of s name ≡ Some o.account
has_account rows s name d o e = ap (account_for s.accounts) e ∙ o.named

account_place : (s : Ideal) (identifier : Bytes) (a : Account) → account_named s identifier ≡ Some a → (n : ℕ) × (account_at n s.accounts ≡ Some a)
account_place s identifier a e =
    let place = place_of s.accounts a (found_passes (is_account identifier) s.accounts a e).1 in
    (suc place.0, place.1)

-- a device that can't have an account
absent : (s : Ideal) (name : Bytes) → ((d : Device) → device_named s name ≡ Some d → ⊥) → device_named s name ≡ None
absent s name none = at (device_named s name) refl
  where
    at : (found : Option Device) → device_named s name ≡ found → device_named s name ≡ None
    at None e = e
    at (Some d) e = absurd (none d e)

pub no_rows : (s : Ideal) (name : Bytes) (rows : Rows) → ShowsDevice rows s name → rows key.Owner ≡ None → device_named s name ≡ None
no_rows s name rows h none =
    absent s name (λ d e.
    let o : Owned rows s name d = owned_by rows s name d h e in
    never (rows key.Owner) (value.Owner o.holder.owner.owner) o.holder.owner.stands none)

module _ (rows : Rows) (s : Ideal) (name : Bytes) (shows : ShowsDevice rows s name) where
  pub no_owner : owner_in (rows key.Owner) ≡ None → device_named s name ≡ None
  no_owner none =
      absent s name (λ d e.
      let o : Owned rows s name d = owned_by rows s name d shows e in
      never (owner_in (rows key.Owner)) o.holder.owner.owner (ap owner_in o.holder.owner.stands) none)

  module _ (numbers : Bytes → Option ℕ) (are : AreAccountNumbers numbers s.accounts) (owner : OwnerRow) (owner_is : owner_in (rows key.Owner) ≡ Some owner) where
    own : (d : Device) (o : Owned rows s name d) → owner.identifier ≡ o.account.identifier
    own d o =
        let there : owner_in (rows key.Owner) ≡ Some o.holder.owner.owner = ap owner_in o.holder.owner.stands in
        ap (λ (r : OwnerRow). r.identifier) (one_found (owner_in (rows key.Owner)) owner o.holder.owner.owner owner_is there) ∙ o.holder.owner.identifier

    own_number : (d : Device) (o : Owned rows s name d) → (n : ℕ) × (account_at n s.accounts ≡ Some o.account) × (numbers owner.identifier ≡ Some n)
    own_number d o =
        let place = account_place s d.account o.account o.named in
        (place.0, place.1, ap numbers (own d o) ∙ are place.0 o.account place.1)

    pub no_number : numbers owner.identifier ≡ None → device_named s name ≡ None
    no_number none =
        absent s name (λ d e.
        let n = own_number d (owned_by rows s name d shows e) in
        never (numbers owner.identifier) n.0 n.2 none)

    module _ (account : ℕ) (account_is : numbers owner.identifier ≡ Some account) where
      own_at : (d : Device) (o : Owned rows s name d) → account_at account s.accounts ≡ Some o.account
      own_at d o =
          let n = own_number d o in
          ap (λ (m : ℕ). account_at m s.accounts) (one_found (numbers owner.identifier) account n.0 account_is n.2) ∙ n.1

      -- what was found of a slot
      abbrev OfSlot : Option Value → Option HeldSet → Type 0
      OfSlot found held = (a : Account) → account_at account s.accounts ≡ Some a → owner.identifier ≡ a.identifier → IsOfSlot a (set_in found) held

      held_in : (d : Device) (o : Owned rows s name d) (found : Option Value) (row : SetRow) (held : Option HeldSet) (number : ℕ) → OfSlot found held
          → found ≡ Some (value.Set row) → IsSetRow o.account number row → IsNumbered o.account number held
      held_in d o found row held number of stands is =
          let shown : IsOfSlot o.account (set_in found) held = of o.account (own_at d o) (own d o) in
          let read : set_in found ≡ Some row = ap set_in stands in
          let at_row : IsOfSlot o.account (Some row) held = subst (λ (r : Option SetRow). IsOfSlot o.account r held) read shown in
          at_row number is

      none_in : (d : Device) (o : Owned rows s name d) (found : Option Value) (held : Option HeldSet) → OfSlot found held → found ≡ None → held ≡ None
      none_in d o found held of none =
          let shown : IsOfSlot o.account (set_in found) held = of o.account (own_at d o) (own d o) in
          let read : set_in found ≡ None = ap set_in none in
          subst (λ (r : Option SetRow). IsOfSlot o.account r held) read shown

      pub no_present : OfSlot (rows (key.Set Present)) None → device_named s name ≡ None
      no_present of =
          absent s name (λ d e.
          let o : Owned rows s name d = owned_by rows s name d shows e in
          let present : ShowsPresent rows o.account (greatest 0 d.held) = o.holder.present in
          let is : IsNumbered o.account (greatest 0 d.held) None =
          held_in d o (rows (key.Set Present)) present.row None (greatest 0 d.held) of present.stands present.is in
          never None is.found is.is refl)

      module _ (present : HeldSet) (older : Option HeldSet) (present_of : OfSlot (rows (key.Set Present)) (Some present))
          (older_of : OfSlot (rows (key.Set Older)) older) (held_are : (d : Device) → device_named s name ≡ Some d → HoldsSets (account_of s name) d) where
        abbrev held : Holding
        held = record { account = account; present = present; older = older }

        module _ (d : Device) (e : device_named s name ≡ Some d) (o : Owned rows s name d) where
          present_is : IsNumbered o.account (greatest 0 d.held) (Some present)
          present_is =
              let shown : ShowsPresent rows o.account (greatest 0 d.held) = o.holder.present in
              held_in d o (rows (key.Set Present)) shown.row (Some present) (greatest 0 d.held) present_of shown.stands shown.is

          same_present : present_is.found ≡ present
          same_present = one_found (Some present) present_is.found present present_is.is refl

          number_same : present.number ≡ greatest 0 d.held
          number_same = ap (λ (h : HeldSet). h.number) (sym same_present) ∙ present_is.number_is

          holding : d.held ≡ numbers_of held → IfSome older (λ h. set_at h.number o.account.sets ≡ Some h.set) → IsHolding s name held
          holding numbers_are older_is =
              record {
                device = d;
                named = e;
                account = o.account;
                has = has_account rows s name d o e;
                at = own_at d o;
                held = numbers_are;
                greatest_is = sym number_same;
                present =
                    ap (λ (n : ℕ). set_at n o.account.sets) number_same
                    ∙ present_is.at
                    ∙ ap (λ (h : HeldSet). Some h.set) same_present;
                older = older_is;
                identifier =
                    ap (λ (h : HeldSet). h.set.params.identifier) (sym same_present)
                    ∙ present_is.identifier
                    ∙ account_identifier s d.account o.account o.named;
              }

          -- one set is held
          one : (g : ℕ) → d.held ≡ g ∷ [] → 1 ≤ g → IsHolding s name held
          one g is low =
              let slot : ShowsOlder o.account (rows (key.Set Older)) (g ∷ []) =
              subst (λ (ns : List ℕ). ShowsOlder o.account (rows (key.Set Older)) ns) is o.holder.older in
              let none : older ≡ None = none_in d o (rows (key.Set Older)) older older_of slot in
              let number : present.number ≡ g = number_same ∙ ap (greatest 0) is ∙ one_greatest g low in
              holding
              (is
              ∙ ap (λ (n : ℕ). n ∷ []) (sym number)
              ∙ ap (λ (x : Option HeldSet). number_of x ++ present.number ∷ []) (sym none))
              (subst (λ (x : Option HeldSet). IfSome x (λ h. set_at h.number o.account.sets ≡ Some h.set)) (sym none) tt)

          -- or two
          two : (first g : ℕ) → d.held ≡ first ∷ g ∷ [] → 1 ≤ first → first < g → IsHolding s name held
          two first g is low less =
              let slot : ShowsOlder o.account (rows (key.Set Older)) (first ∷ g ∷ []) =
              subst (λ (ns : List ℕ). ShowsOlder o.account (rows (key.Set Older)) ns) is o.holder.older in
              let older_is : IsNumbered o.account first older = held_in d o (rows (key.Set Older)) slot.0 older first older_of slot.1 slot.2 in
              let number : present.number ≡ g = number_same ∙ ap (greatest 0) is ∙ two_greatest first g low less in
              holding
              (is
              ∙ ap (λ (n : ℕ). first ∷ n ∷ []) (sym number)
              ∙ ap (λ (n : ℕ). n ∷ present.number ∷ []) (sym older_is.number_is)
              ∙ ap (λ (x : Option HeldSet). number_of x ++ present.number ∷ []) (sym older_is.is))
              (subst (λ (x : Option HeldSet). IfSome x (λ h. set_at h.number o.account.sets ≡ Some h.set)) (sym older_is.is)
              (ap (λ (n : ℕ). set_at n o.account.sets) older_is.number_is ∙ older_is.at))

          by : (held_list : List ℕ) → d.held ≡ held_list → IsOneOrTwo (length o.account.sets) held_list → IsHolding s name held
          by [] is h = absurd h
          by (g ∷ []) is h = one g is h.0
          by (first ∷ g ∷ []) is h = two first g is h.0 h.1
          by (first ∷ g ∷ m ∷ rest) is h = absurd h

          one_or_two : IsOneOrTwo (length o.account.sets) d.held
          one_or_two =
              let h : HoldsSets (account_of s name) d = held_are d e in
              let same : h.account ≡ o.account = one_found (account_of s name) h.account o.account h.has (has_account rows s name d o e) in
              subst (λ (a : Account). IsOneOrTwo (length a.sets) d.held) same h.held

        pub holds : IsHolding s name held
        holds = at (device_named s name) refl
          where
            at : (found : Option Device) → device_named s name ≡ found → IsHolding s name held
            at None e =
                let shown : ShowsDeviceAs rows s name None = subst (λ (found : Option Device). ShowsDeviceAs rows s name found) e shows in
                never (owner_in (rows key.Owner)) owner owner_is (ap owner_in (shown.none key.Owner))
            at (Some d) e = let o : Owned rows s name d = owned_by rows s name d shows e in by d e o d.held refl (one_or_two d e o)
