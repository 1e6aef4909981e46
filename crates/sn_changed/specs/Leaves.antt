-- What a change of password, and an item that is sealed again, leave of the ideal state: one account becomes another, by one set or by one version more.
use Rattle.std.specs.Prelude.{◌≡◌, ◌≢◌, ◌⊎◌, ◌↔◌, ◌≤◌, ℕ, ◌+◌, List, [], ◌∷◌, ◌++◌, length, Option, Some, IsTrue}
use Rattle.sn_laws.specs.Lookups.{Bytes, account_named, account_with, last_of}
use Rattle.sn_laws.specs.Moves.{after, none_behind, resealed}
use Rattle.sn_laws.specs.Relation.{IsLive, IsOnLast, IsUnder}
use Rattle.sn_laws.specs.declared.ideal.Account.{Account}
use Rattle.sn_laws.specs.declared.ideal.Ideal.{Ideal}
use Rattle.sn_laws.specs.declared.ideal.Version.{Version}
use Rattle.sn_laws.specs.declared.moves.Move.TheVariants as move
use Rattle.sn_rows.specs.Table.{Rows}
use Rattle.sn_shows.specs.Laws.{AreApart}
use Rattle.sn_shows.specs.Servers.{ShowsAccounts, account_at}
use Rattle.sn_shows.specs.Sets.{set_at}
use Rattle.sn_string.specs.declared.params.KeySet.{KeySet}
use Rattle.sn_changed.specs.Laws.{next_set}

-- ---- one account

-- the account of this number was the one and is the other, and keeps its identifier; each other account, by its number and by its identifier, and all drafts
-- and devices are as they were
pub record OnlyBecomes (s later : Ideal) (number : ℕ) (a now : Account) : Type 0 where
  pub same : now.identifier ≡ a.identifier
  pub was : account_at number s.accounts ≡ Some a
  pub is : account_at number later.accounts ≡ Some now
  pub others : (other : ℕ) → other ≢ number → account_at other later.accounts ≡ account_at other s.accounts
  pub was_named : account_named s a.identifier ≡ Some a
  pub is_named : account_named later a.identifier ≡ Some now
  pub others_named : (identifier : Bytes) → identifier ≢ a.identifier → account_named later identifier ≡ account_named s identifier
  pub counted : length later.accounts ≡ length s.accounts
  pub drafts : later.drafts ≡ s.drafts
  pub devices : later.devices ≡ s.devices

-- it was the last version of its item in the account of this number and identifier
pub record WasLast (s : Ideal) (number : ℕ) (identifier uuid : Bytes) (v : Version) : Type 0 where
  pub account : Account
  pub at : account_at number s.accounts ≡ Some account
  pub own : account.identifier ≡ identifier
  pub last : last_of uuid account.versions ≡ Some v

-- the account was there under this identifier; and what stands on an item's last version now, or on none where no account has the item, stood so then: each
-- base at least that is old in this sense
pub record WereOnLast (s later : Ideal) (identifier : Bytes) (now : Account) (IsOld : Option ℕ → Type 0) : Type 0 where
  pub account : Account
  pub named : account_named s identifier ≡ Some account
  pub on : (uuid : Bytes) (base : Option ℕ) → IsOld base → IsOnLast later now uuid base → IsOnLast s account uuid base

-- ---- a change of password

abbrev pub with_set : KeySet → Account → Account
with_set set a = record a { sets = a.sets ++ set ∷ [] }

-- the set has the number that comes next, and each other number has the set that it had
pub record ComesNext (sets : List KeySet) (set : KeySet) : Type 0 where
  pub next : set_at (length sets + 1) (sets ++ set ∷ []) ≡ Some set
  pub others : (number : ℕ) → number ≢ length sets + 1 → set_at number (sets ++ set ∷ []) ≡ set_at number sets

-- an account has one set more, and nothing else is changed
abbrev pub ChangeLeaves : Type 0
ChangeLeaves = (s : Ideal) (number : ℕ) (a : Account) (set : KeySet) → AreApart s.accounts → account_at number s.accounts ≡ Some a
    → OnlyBecomes s (after s (next_set a set)) number a (with_set set a) × ComesNext a.sets set

-- so each last version was the last before
abbrev pub ChangeLasts : Type 0
ChangeLasts = (s later : Ideal) (number : ℕ) (a : Account) (set : KeySet) → OnlyBecomes s later number a (with_set set a)
    → (other : ℕ) (b : Account) (uuid : Bytes) (v : Version) → account_at other later.accounts ≡ Some b → last_of uuid b.versions ≡ Some v
    → WasLast s other b.identifier uuid v

-- and what stands on one stood on it
abbrev pub ChangeOnLast : Type 0
ChangeOnLast = (s later : Ideal) (number : ℕ) (a : Account) (set : KeySet) → OnlyBecomes s later number a (with_set set a)
    → (identifier : Bytes) (b : Account) → account_named later identifier ≡ Some b → WereOnLast s later identifier b (λ base. Unit {0})

-- ---- an item that is sealed again

abbrev pub with_version : Version → Account → Account
with_version w a = record a { versions = a.versions ++ w ∷ [] }

-- the version again, at this stamp and under the set of this number
abbrev pub resealed_at : ℕ → ℕ → Version → Version
resealed_at stamp number v = record v { stamp = stamp; body = resealed number v.body }

-- the version is the last of its item, and each other item has the last one that it had
pub record ComesLast (versions : List Version) (w : Version) : Type 0 where
  pub last : last_of w.uuid (versions ++ w ∷ []) ≡ Some w
  pub others : (uuid : Bytes) → uuid ≢ w.uuid → last_of uuid (versions ++ w ∷ []) ≡ last_of uuid versions

-- the account that has the item has its last version again, and nothing else is changed
abbrev pub RewrapLeaves : Type 0
RewrapLeaves = (s : Ideal) (uuid : Bytes) (stamp under number : ℕ) (a : Account) (v : Version) → AreApart s.accounts
    → account_at number s.accounts ≡ Some a → account_with s.accounts uuid ≡ Some a → last_of uuid a.versions ≡ Some v
    → OnlyBecomes s (after s (move.Rewrap uuid stamp under)) number a (with_version (resealed_at stamp (length a.sets) v) a)
    × ComesLast a.versions (resealed_at stamp (length a.sets) v)

-- where an account has one version more, each last version is that one or was the last before
abbrev pub VersionLasts : Type 0
VersionLasts = (s later : Ideal) (number : ℕ) (a : Account) (w : Version) → OnlyBecomes s later number a (with_version w a)
    → (other : ℕ) (b : Account) (uuid : Bytes) (v : Version) → account_at other later.accounts ≡ Some b → last_of uuid b.versions ≡ Some v
    → (v ≡ w) ⊎ WasLast s other b.identifier uuid v

-- and what stands on a last version stood on it, but at the stamp of that one
abbrev pub VersionOnLast : Type 0
VersionOnLast = (s later : Ideal) (number : ℕ) (a : Account) (w : Version) → OnlyBecomes s later number a (with_version w a)
    → (identifier : Bytes) (b : Account) → account_named later identifier ≡ Some b → WereOnLast s later identifier b (λ base. base ≢ Some w.stamp)

-- where rows show the accounts, the account that has an item is the one with its last version
abbrev pub ItemOwner : Type 0
ItemOwner = (rows : Rows) (accounts : List Account) (number : ℕ) (a : Account) (uuid : Bytes) (v : Version) → ShowsAccounts rows accounts
    → account_at number accounts ≡ Some a → last_of uuid a.versions ≡ Some v → account_with accounts uuid ≡ Some a

-- ---- the items that are behind

-- the item's last version in the account is live
abbrev pub IsItemLive : Account → Bytes → Type 0
IsItemLive a uuid = (v : Version) × (last_of uuid a.versions ≡ Some v) × IsLive v.body

-- it is, and under another set than the account's last
pub record IsItemBehind (a : Account) (uuid : Bytes) : Type 0 where
  pub version : Version
  pub last : last_of uuid a.versions ≡ Some version
  pub live : IsLive version.body
  pub behind : ¬ (IsUnder (length a.sets) version.body)

-- it is under a set that the account has
abbrev pub IsUnderOwn : Account → Bytes → Type 0
IsUnderOwn a uuid = (v : Version) (number : ℕ) → last_of uuid a.versions ≡ Some v → IsUnder number v.body → number ≤ length a.sets

-- with a new set all live items are behind
abbrev pub ChangeBehind : Type 0
ChangeBehind = (a : Account) (set : KeySet) (uuid : Bytes) → IsUnderOwn a uuid → IsItemBehind (with_set set a) uuid ↔ IsItemLive a uuid

-- of these the one that is sealed again is no more
abbrev pub RewrapBehind : Type 0
RewrapBehind = (a : Account) (uuid : Bytes) (v : Version) (stamp : ℕ) → last_of uuid a.versions ≡ Some v
    → (other : Bytes) → IsItemBehind (with_version (resealed_at stamp (length a.sets) v) a) other ↔ ((other ≢ uuid) × IsItemBehind a other)

-- and where none is left a change of password may come next, as far as it asks for that
abbrev pub NoneIsBehind : Type 0
NoneIsBehind = (a : Account) → IsTrue (none_behind (length a.sets) a.versions) ↔ ((uuid : Bytes) → ¬ (IsItemBehind a uuid))
