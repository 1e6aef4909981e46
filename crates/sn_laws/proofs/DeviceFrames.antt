-- What each move leaves of the devices.
use Rattle.std.proofs.Common.{◌≡◌, ℕ, List, [], ◌∷◌, ◌++◌, Option, Some, None, Bool, true, false, refl, sym, ap, ◌∙◌, subst}
use Rattle.std.specs.Prelude.{cond, if◌then◌else◌, find, ◌==◌}
use Rattle.std.specs.Option.{option_map}
use Rattle.std.specs.Str.{bytes_eq}
use Rattle.sn_laws.specs.declared.ideal.Device.{Device}
use Rattle.sn_laws.specs.declared.ideal.Ideal.{Ideal}
use Rattle.sn_laws.specs.declared.moves.Move.{Move}
use Rattle.sn_laws.specs.declared.moves.Move.TheVariants.{Register, Join, Edit, Drop, Post, Unpost, Accept, Rewrap, Settle, SettlePosted, Fork, Rename, GiveWay, Change, Retire}
use Rattle.sn_laws.specs.Lookups.{Bytes, device_named, is_device}
use Rattle.sn_laws.specs.Moves.{after, changed_where, joined, without}
use Rattle.sn_laws.proofs.EachLemmas.{clash, is_false, same_text, text_same}
use Rattle.sn_laws.proofs.FindLemmas.{found_after, found_apart, found_beside, found_changed}

-- a device that holds one set more, or one less
abbrev pub holding : ℕ → Device → Device
holding number d = record d { held = d.held ++ number ∷ [] }

abbrev pub retired : ℕ → Device → Device
retired number d = record d { held = without (λ m. m == number) d.held }

-- the device that a join leaves
abbrev pub device_joined : Bytes → Bytes → ℕ → Option Device → Device
device_joined name identifier number None = record { name = name; account = identifier; held = number ∷ [] }
device_joined name identifier number (Some d) = holding number d

-- the device of a name after a move
abbrev pub device_next : Ideal → Move → Bytes → Option Device
device_next s (Join name identifier number) device =
    if bytes_eq name device then Some (device_joined name identifier number (device_named s name)) else device_named s device
device_next s (Retire name number) device = if bytes_eq name device then option_map (retired number) (device_named s device) else device_named s device
device_next s m device = device_named s device

-- what is another device isn't this one
other_device : (device name : Bytes) → bytes_eq name device ≡ false → (d : Device) → is_device name d ≡ true → is_device device d ≡ false
other_device device name differs d h = is_false (is_device device d) both
  where
    both : is_device device d ≡ true → ⊥
    both k = clash (bytes_eq name device) (text_same name device (sym (same_text d.name name h) ∙ same_text d.name device k)) differs

changed : (f : Device → Device) → ((device : Bytes) (d : Device) → is_device device (f d) ≡ is_device device d) → (devices : List Device) (device name : Bytes)
    → find (is_device device) (changed_where (is_device name) f devices)
    ≡ (if bytes_eq name device then option_map f (find (is_device device) devices) else find (is_device device) devices)
changed f keeps devices device name = at (bytes_eq name device) refl
  where
    at : (b : Bool) → bytes_eq name device ≡ b → find (is_device device) (changed_where (is_device name) f devices)
        ≡ (if b then option_map f (find (is_device device) devices) else find (is_device device) devices)
    at true e =
        subst (λ n. find (is_device device) (changed_where (is_device n) f devices) ≡ option_map f (find (is_device device) devices))
        (sym (same_text name device e)) (found_changed (is_device device) f (keeps device) devices)
    at false e =
        found_apart (is_device device) (is_device name) f (other_device device name e)
        (λ d h. keeps device d ∙ other_device device name e d h) devices

join : (devices : List Device) (device name identifier : Bytes) (number : ℕ) (found : Option Device) → find (is_device name) devices ≡ found
    → find (is_device device) (joined devices name identifier number found)
    ≡ (if bytes_eq name device then Some (device_joined name identifier number found) else find (is_device device) devices)
join devices device name identifier number None h = at (bytes_eq name device) refl
  where
    at : (b : Bool) → bytes_eq name device ≡ b → find (is_device device) (devices ++ device_joined name identifier number None ∷ [])
        ≡ (if b then Some (device_joined name identifier number None) else find (is_device device) devices)
    at true e =
        found_after (is_device device) devices (device_joined name identifier number None ∷ [])
        (subst (λ n. find (is_device n) devices ≡ None) (same_text name device e) h)
        ∙ ap (λ b. cond b (Some (device_joined name identifier number None)) None) e
    at false e = found_beside (is_device device) devices (device_joined name identifier number None) e
join devices device name identifier number (Some d) h =
    changed (holding number) (λ _ _. refl) devices device name ∙ at (bytes_eq name device) refl
  where
    at : (b : Bool) → bytes_eq name device ≡ b
        → (if b then option_map (holding number) (find (is_device device) devices) else find (is_device device) devices)
        ≡ (if b then Some (holding number d) else find (is_device device) devices)
    at true e = ap (option_map (holding number)) (subst (λ n. find (is_device n) devices ≡ Some d) (same_text name device e) h)
    at false e = refl

-- the frame
pub device_after : (s : Ideal) (m : Move) (device : Bytes) → device_named (after s m) device ≡ device_next s m device
device_after s (Register identifier set) device = refl
device_after s (Join name identifier number) device = join s.devices device name identifier number (device_named s name) refl
device_after s (Edit name item kind base latest) device = refl
device_after s (Drop name item) device = refl
device_after s (Post name item) device = refl
device_after s (Unpost name item) device = refl
device_after s (Accept name item stamp under) device = refl
device_after s (Rewrap item stamp under) device = refl
device_after s (Settle name item) device = refl
device_after s (SettlePosted name item stamp) device = refl
device_after s (Fork name item other) device = refl
device_after s (Rename name item other) device = refl
device_after s (GiveWay name item) device = refl
device_after s (Change identifier number set) device = refl
device_after s (Retire name number) device = changed (retired number) (λ _ _. refl) s.devices device name

-- a device that is there stays, with its account
pub record StaysDevice (d : Device) (found : Option Device) : Type 0 where
  pub now_is : Device
  pub found_is : found ≡ Some now_is
  pub account : now_is.account ≡ d.account

join_stays : (d : Device) (name identifier : Bytes) (number : ℕ) (found : Option Device) → found ≡ Some d
    → StaysDevice d (Some (device_joined name identifier number found))
join_stays d name identifier number None h = absurd (cc)
join_stays d name identifier number (Some e) h =
    let same : e ≡ d = cc in
    record { now_is = holding number e; found_is = refl; account = ap (λ (x : Device). x.account) same }

next_stays : (s : Ideal) (m : Move) (device : Bytes) (d : Device) → device_named s device ≡ Some d → StaysDevice d (device_next s m device)
next_stays s (Join name identifier number) device d h = at (bytes_eq name device) refl
  where
    at : (b : Bool) → bytes_eq name device ≡ b
        → StaysDevice d (if b then Some (device_joined name identifier number (device_named s name)) else device_named s device)
    at true e = join_stays d name identifier number (device_named s name) (ap (device_named s) (same_text name device e) ∙ h)
    at false e = record { now_is = d; found_is = h; account = refl }
next_stays s (Retire name number) device d h = at (bytes_eq name device)
  where
    at : (b : Bool) → StaysDevice d (if b then option_map (retired number) (device_named s device) else device_named s device)
    at true = record { now_is = retired number d; found_is = ap (option_map (retired number)) h; account = refl }
    at false = record { now_is = d; found_is = h; account = refl }
next_stays s (Register identifier set) device d h = record { now_is = d; found_is = h; account = refl }
next_stays s (Edit name item kind base latest) device d h = record { now_is = d; found_is = h; account = refl }
next_stays s (Drop name item) device d h = record { now_is = d; found_is = h; account = refl }
next_stays s (Post name item) device d h = record { now_is = d; found_is = h; account = refl }
next_stays s (Unpost name item) device d h = record { now_is = d; found_is = h; account = refl }
next_stays s (Accept name item stamp under) device d h = record { now_is = d; found_is = h; account = refl }
next_stays s (Rewrap item stamp under) device d h = record { now_is = d; found_is = h; account = refl }
next_stays s (Settle name item) device d h = record { now_is = d; found_is = h; account = refl }
next_stays s (SettlePosted name item stamp) device d h = record { now_is = d; found_is = h; account = refl }
next_stays s (Fork name item other) device d h = record { now_is = d; found_is = h; account = refl }
next_stays s (Rename name item other) device d h = record { now_is = d; found_is = h; account = refl }
next_stays s (GiveWay name item) device d h = record { now_is = d; found_is = h; account = refl }
next_stays s (Change identifier number set) device d h = record { now_is = d; found_is = h; account = refl }

pub device_stays : (s : Ideal) (m : Move) (device : Bytes) (d : Device) → device_named s device ≡ Some d
    → StaysDevice d (device_named (after s m) device)
device_stays s m device d h = subst (StaysDevice d) (sym (device_after s m device)) (next_stays s m device d h)
