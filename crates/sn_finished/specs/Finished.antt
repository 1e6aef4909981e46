-- When a change of password is finished.
use Rattle.std.specs.Prelude.{◌≡◌, ◌≢◌, ℕ, ◌+◌, List, length, Some}
use Rattle.sn_laws.specs.Each.{One}
use Rattle.sn_laws.specs.Lookups.{Bytes, account_named, account_of, last_of}
use Rattle.sn_laws.specs.Relation.{IsLive, IsUnder}
use Rattle.sn_laws.specs.Runs.{end}
use Rattle.sn_laws.specs.declared.ideal.Account.{Account}
use Rattle.sn_laws.specs.declared.ideal.Version.{Version}
use Rattle.sn_laws.specs.declared.moves.Move.{Move}
use Rattle.sn_laws.specs.declared.moves.Move.TheVariants.{Change, Retire}

-- ---- what last versions carry

-- no last version of the account carries the set of this number
abbrev pub CarriesNone : ℕ → Account → Type 0
CarriesNone number a = (uuid : Bytes) (v : Version) → last_of uuid a.versions ≡ Some v → ¬ (IsUnder number v.body)

-- each undeleted last version of the account carries its last set
abbrev pub CarriesLast : Account → Type 0
CarriesLast a = (uuid : Bytes) (v : Version) → last_of uuid a.versions ≡ Some v → IsLive v.body → IsUnder (length a.sets) v.body

-- the undeleted last versions of the account carry one set
abbrev pub CarriesOne : Account → Type 0
CarriesOne a = (uuid other : Bytes) (v w : Version) (n m : ℕ) → last_of uuid a.versions ≡ Some v → last_of other a.versions ≡ Some w
    → IsUnder n v.body → IsUnder m w.body → n ≡ m

-- ---- finished

-- among the moves the device retires the set of this number
abbrev pub Retires : List Move → Bytes → ℕ → Type 0
Retires moves device number = One (λ m. m ≡ Retire device number) moves

-- a device that is of the account at the end has retired the set before its last one
pub record IsFinishedBy (moves : List Move) (a : Account) (device : Bytes) : Type 0 where
  pub number : ℕ
  pub retired : Retires moves device number
  pub has : account_of (end moves) device ≡ Some a
  pub before_last : number + 1 ≡ length a.sets

-- some device has
abbrev pub HasFinished : List Move → Account → Type 0
HasFinished moves a = (device : Bytes) × IsFinishedBy moves a device

-- the move gives this account no set
abbrev pub KeepsSets : Bytes → Move → Type 0
KeepsSets identifier (Change other number set) = other ≢ identifier
KeepsSets identifier m = Unit {0}

-- the account is there, and finished
pub record IsStillFinished (moves : List Move) (identifier : Bytes) : Type 0 where
  pub account : Account
  pub named : account_named (end moves) identifier ≡ Some account
  pub finished : HasFinished moves account
