-- What holds of every state that legal moves lead to.
use Rattle.std.specs.Prelude.{◌≡◌, ◌≢◌, ◌⊎◌, ◌<◌, ◌≤◌, ℕ, ◌+◌, List, [], ◌∷◌, ◌++◌, length, map, Option, Some}
use Rattle.sn_laws.specs.Each.{Each, One}
use Rattle.sn_laws.specs.Lookups.{Bytes, account_of, device_named, draft_at, greatest, held_by, last_of}
use Rattle.sn_laws.specs.Relation.{IsUnder}
use Rattle.sn_laws.specs.Runs.{Legal, end}
use Rattle.sn_laws.specs.declared.ideal.Account.{Account}
use Rattle.sn_laws.specs.declared.ideal.Content.TheVariants.{Deleted}
use Rattle.sn_laws.specs.declared.ideal.Device.{Device}
use Rattle.sn_laws.specs.declared.ideal.Draft.{Draft}
use Rattle.sn_laws.specs.declared.ideal.Posted.{Posted}
use Rattle.sn_laws.specs.declared.ideal.Version.{Version}
use Rattle.sn_laws.specs.declared.moves.Move.{Move}
use Rattle.sn_laws.specs.declared.moves.Move.TheVariants.{Accept, Post, Rewrap}

-- no two of these are the same
abbrev pub AllDiffer : List Bytes → Type 0
AllDiffer [] = Unit {0}
AllDiffer (x ∷ xs) = Each (λ y. y ≢ x) xs × AllDiffer xs

-- ---- accounts and their items

-- an identifier is that of one account at most
abbrev pub IdentifiersDiffer : Type 0
IdentifiersDiffer = (ms : List Move) → Legal ms → AllDiffer (map (λ a. a.identifier) (end ms).accounts)

-- a nonce is that of one set of its account at most
abbrev pub NoncesApart : Account → Type 0
NoncesApart a = AllDiffer (map (λ k. k.params.pw_nonce) a.sets)

abbrev pub NoncesDiffer : Type 0
NoncesDiffer = (ms : List Move) → Legal ms → Each NoncesApart (end ms).accounts

-- the account has versions of the item
abbrev pub HasItem : Bytes → Account → Type 0
HasItem uuid a = One (λ v. v.uuid ≡ uuid) a.versions

-- an item is in one account
abbrev pub OneOwner : Type 0
OneOwner = (ms : List Move) (uuid : Bytes) (a b : Account) → Legal ms → One (λ x. x ≡ a) (end ms).accounts → One (λ x. x ≡ b) (end ms).accounts
    → HasItem uuid a → HasItem uuid b → a.identifier ≡ b.identifier

-- ---- sets

-- a live version carries a set of its account
abbrev pub CarriesSets : Type 0
CarriesSets = (ms : List Move) → Legal ms
    → Each (λ a. Each (λ v. (k : ℕ) → IsUnder k v.body → (1 ≤ k) × (k ≤ length a.sets)) a.versions) (end ms).accounts

-- a live last version carries the last set or the one before
abbrev pub CarriesLastTwo : Account → Type 0
CarriesLastTwo a = (uuid : Bytes) (v : Version) (k : ℕ) → last_of uuid a.versions ≡ Some v → IsUnder k v.body
    → (k ≡ length a.sets) ⊎ (k + 1 ≡ length a.sets)

abbrev pub CarriesTwo : Type 0
CarriesTwo = (ms : List Move) → Legal ms → Each CarriesLastTwo (end ms).accounts

-- one set is held, or two, the lesser first
abbrev pub IsOneOrTwo : ℕ → List ℕ → Type 0
IsOneOrTwo n [] = ⊥
IsOneOrTwo n (g ∷ []) = (1 ≤ g) × (g ≤ n)
IsOneOrTwo n (o ∷ g ∷ []) = (1 ≤ o) × (o < g) × (g ≤ n)
IsOneOrTwo n (o ∷ g ∷ m ∷ more) = ⊥

-- a device is an account's, and holds one or two of its sets
pub record HoldsSets (found : Option Account) (d : Device) : Type 0 where
  pub account : Account
  pub has : found ≡ Some account
  pub held : IsOneOrTwo (length account.sets) d.held

abbrev pub DevicesHold : Type 0
DevicesHold = (ms : List Move) (name : Bytes) (d : Device) → Legal ms → device_named (end ms) name ≡ Some d → HoldsSets (account_of (end ms) name) d

-- ---- drafts

-- what was sent was sent under no set above the greatest that the device holds
abbrev pub NumbersHeld : Type 0
NumbersHeld = (ms : List Move) (name uuid : Bytes) (d : Draft) (p : Posted) (k : ℕ) → Legal ms → draft_at (end ms) name uuid ≡ Some d
    → d.posted ≡ Some p → p.set ≡ Some k → k ≤ greatest 0 (held_by (device_named (end ms) name))

-- a draft of which a deletion was sent is deleted
abbrev pub DeletionsStay : Type 0
DeletionsStay = (ms : List Move) (name uuid : Bytes) (d : Draft) (p : Posted) → Legal ms → draft_at (end ms) name uuid ≡ Some d
    → d.posted ≡ Some p → p.content ≡ Deleted → d.latest ≡ Deleted

-- a device with drafts has an account
abbrev pub DraftsOwned : Type 0
DraftsOwned = (ms : List Move) (name uuid : Bytes) (d : Draft) → Legal ms → draft_at (end ms) name uuid ≡ Some d
    → (a : Account) × (account_of (end ms) name ≡ Some a)

-- ---- nothing happens twice

-- what is sent becomes one version at most: between two accepts of a device's item there is a post of it
abbrev pub PostedOnce : Type 0
PostedOnce = (ms between : List Move) (device uuid : Bytes) (stamp later : ℕ) (under under_later : Option ℕ)
    → Legal ((ms ++ Accept device uuid stamp under ∷ between) ++ Accept device uuid later under_later ∷ [])
    → One (λ m. m ≡ Post device uuid) between

-- an item is sealed again once at most under each set: of two times, the later is under a later set
abbrev pub RewrappedOnce : Type 0
RewrappedOnce = (ms between : List Move) (uuid : Bytes) (stamp later under under_later : ℕ)
    → Legal ((ms ++ Rewrap uuid stamp under ∷ between) ++ Rewrap uuid later under_later ∷ []) → under < under_later
