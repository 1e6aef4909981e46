-- Accounts and sets by what rows name them by.
use Rattle.std.specs.Prelude.{◌≡◌, ℕ, List, [], ◌∷◌, ◌++◌, Option, Some, None, IsSome, IfSome, String, if◌then◌else◌, slice_get}
use Rattle.std.specs.BTreeMap.{BTreeMap, get_by_text}
use Rattle.std.specs.Str.{bytes_eq}
use Rattle.sn_laws.specs.Each.{One}
use Rattle.sn_laws.specs.Lookups.{Bytes, account_of, device_named, greatest, last_of}
use Rattle.sn_laws.specs.declared.ideal.Account.{Account}
use Rattle.sn_laws.specs.declared.ideal.Body.TheVariants.{Under}
use Rattle.sn_laws.specs.declared.ideal.Device.{Device}
use Rattle.sn_laws.specs.declared.ideal.Ideal.{Ideal}
use Rattle.sn_laws.specs.declared.ideal.Version.{Version}
use Rattle.sn_rows.specs.Table.{Rows, same_key}
use Rattle.sn_rows.specs.declared.device_rows.OwnerRow.{OwnerRow}
use Rattle.sn_rows.specs.declared.device_rows.SetRow.{SetRow}
use Rattle.sn_rows.specs.declared.key.Key.{Key}
use Rattle.sn_rows.specs.declared.key.Key.TheVariants as key
use Rattle.sn_shows.specs.Devices.{IsSetRow}
use Rattle.sn_shows.specs.Servers.{ShowsServer, account_at}
use Rattle.sn_shows.specs.Sets.{set_at}
use Rattle.sn_string.specs.declared.params.KeySet.{KeySet}
use Rattle.sn_shown.specs.Shown.{IsHolder, IsRegular}
use Rattle.sn_shown.specs.declared.holding.HeldSet.{HeldSet}
use Rattle.sn_shown.specs.declared.holding.Holding.{Holding}
use Rattle.sn_shown.specs.declared.numbers.Numbers.{Numbers}

-- the server's rows show the accounts of a state that is regular
pub record IsServed (server : Rows) (s : Ideal) : Type 0 where
  pub regular : IsRegular s
  pub accounts : ShowsServer server s.accounts

-- ---- numbers by what rows name accounts and sets by

-- each account has its number by its identifier
abbrev pub AreAccountNumbers : (Bytes → Option ℕ) → List Account → Type 0
AreAccountNumbers found accounts = (n : ℕ) (a : Account) → account_at n accounts ≡ Some a → found a.identifier ≡ Some n

-- each set of an account has its number by its nonce
abbrev pub AreSetNumbers : (Bytes → Option ℕ) → Account → Type 0
AreSetNumbers found a = (number : ℕ) (set : KeySet) → set_at number a.sets ≡ Some set → found set.params.pw_nonce ≡ Some number

-- the map at an account's place has the numbers of its sets
abbrev pub HasSetNumbers : {A : Type 0} → Option (BTreeMap (String A) ℕ) → Account → Type 0
HasSetNumbers None a = ⊥
HasSetNumbers (Some numbers) a = AreSetNumbers (get_by_text numbers) a

abbrev pub HaveSetNumbers : {A : Type 0} → List (BTreeMap (String A) ℕ) → List Account → Type 0
HaveSetNumbers maps accounts = (place : ℕ) (a : Account) → slice_get accounts place ≡ Some a → HasSetNumbers (slice_get maps place) a

pub record AreNumbers (numbers : Numbers) (accounts : List Account) : Type 0 where
  pub accounts_are : AreAccountNumbers (get_by_text numbers.accounts) accounts
  pub sets_are : HaveSetNumbers numbers.sets.items accounts

-- a number was put at a name
abbrev pub AddsNumber : (Bytes → Option ℕ) → (Bytes → Option ℕ) → Bytes → ℕ → Type 0
AddsNumber before after name number = (other : Bytes) → after other ≡ (if bytes_eq name other then Some number else before other)

-- ---- the sets of a device

-- the set that a device's rows stand for
pub record IsSetOf (owner : OwnerRow) (row : SetRow) (set : KeySet) : Type 0 where
  pub identifier : set.params.identifier ≡ owner.identifier
  pub cost : set.params.pw_cost ≡ row.pw_cost
  pub nonce : set.params.pw_nonce ≡ row.pw_nonce
  pub pw : set.pw ≡ row.pw
  pub mk : set.mk ≡ row.mk
  pub ak : set.ak ≡ row.ak

-- the set of this number of the account, with its number
pub record IsNumbered (a : Account) (number : ℕ) (held : Option HeldSet) : Type 0 where
  pub found : HeldSet
  pub is : held ≡ Some found
  pub number_is : found.number ≡ number
  pub at : set_at number a.sets ≡ Some found.set
  pub identifier : found.set.params.identifier ≡ a.identifier

-- of an empty slot nothing, and of a set's row that set
abbrev pub IsOfSlot : Account → Option SetRow → Option HeldSet → Type 0
IsOfSlot a None held = held ≡ None
IsOfSlot a (Some row) held = (number : ℕ) → IsSetRow a number row → IsNumbered a number held

-- the numbers of the sets, the older one first
abbrev pub number_of : Option HeldSet → List ℕ
number_of None = []
number_of (Some older) = older.number ∷ []

abbrev pub numbers_of : Holding → List ℕ
numbers_of h = number_of h.older ++ h.present.number ∷ []

-- what a device holds: sets of its account
pub record IsHolding (s : Ideal) (name : Bytes) (h : Holding) : Type 0 where
  pub device : Device
  pub named : device_named s name ≡ Some device
  pub account : Account
  pub has : account_of s name ≡ Some account
  pub at : account_at h.account s.accounts ≡ Some account
  pub held : device.held ≡ numbers_of h
  pub greatest_is : greatest 0 device.held ≡ h.present.number
  pub present : set_at h.present.number account.sets ≡ Some h.present.set
  pub older : IfSome h.older (λ o. set_at o.number account.sets ≡ Some o.set)
  pub identifier : h.present.set.params.identifier ≡ device.account

-- a device without an account holds nothing
abbrev pub IsHoldingOf : Ideal → Bytes → Option Holding → Type 0
IsHoldingOf s name None = device_named s name ≡ None
IsHoldingOf s name (Some h) = IsHolding s name h

-- ---- the sets of some devices, by the keys of the server's rows of them

-- a set was added
abbrev pub with_set : (Key → Option KeySet) → Key → KeySet → Key → Option KeySet
with_set found name set asked = if same_key name asked then Some set else found asked

-- or where there is none, none
abbrev pub with_held : (Key → Option KeySet) → ℕ → Option HeldSet → Key → Option KeySet
with_held found account None asked = found asked
with_held found account (Some held) asked = with_set found (key.Generation account held.number) held.set asked

-- each is the account's, and what these devices hold is there
pub record AreSetsOf (found : Key → Option KeySet) (s : Ideal) (names : List Bytes) : Type 0 where
  pub own : (n number : ℕ) (set : KeySet) (a : Account) → found (key.Generation n number) ≡ Some set → account_at n s.accounts ≡ Some a
      → set_at number a.sets ≡ Some set
  pub there : (name : Bytes) (n number : ℕ) (a : Account) → One (λ m. m ≡ name) names → IsHolder s a number name
      → account_at n s.accounts ≡ Some a → IsSome (found (key.Generation n number))

-- the account's set of this number is there
pub record HasSet (found : Key → Option KeySet) (n : ℕ) (a : Account) (number : ℕ) : Type 0 where
  pub set : KeySet
  pub there : found (key.Generation n number) ≡ Some set
  pub at : set_at number a.sets ≡ Some set

-- so is each that a live last version carries
abbrev pub AreSets : (Key → Option KeySet) → List Account → Type 0
AreSets found accounts = (n : ℕ) (a : Account) (uuid : Bytes) (v : Version) (text : Bytes) (number : ℕ) → account_at n accounts ≡ Some a
    → last_of uuid a.versions ≡ Some v → v.body ≡ Under text number → HasSet found n a number
