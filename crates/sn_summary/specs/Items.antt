-- Items that aren't deleted, and which moves are counted.
use Rattle.std.specs.Prelude.{◌≡◌, List, Bool, true, false, Some}
use Rattle.sn_laws.specs.Each.{Each, One}
use Rattle.sn_laws.specs.Lookups.{Bytes, last_of}
use Rattle.sn_laws.specs.Reached.{AllDiffer}
use Rattle.sn_laws.specs.Relation.{IsLive}
use Rattle.sn_laws.specs.declared.ideal.Account.{Account}
use Rattle.sn_laws.specs.declared.ideal.Version.{Version}
use Rattle.sn_laws.specs.declared.moves.Move.{Move}
use Rattle.sn_laws.specs.declared.moves.Move.TheVariants.{Accept, Rewrap, Fork}

-- a move that makes a version, and one that forks a draft
abbrev pub makes_version : Move → Bool
makes_version (Accept device uuid stamp under) = true
makes_version (Rewrap uuid stamp under) = true
makes_version m = false

abbrev pub makes_fork : Move → Bool
makes_fork (Fork device uuid other) = true
makes_fork m = false

-- an account has the item, and its last version there isn't deleted
pub record IsLiveItem (accounts : List Account) (uuid : Bytes) : Type 0 where
  pub account : Account
  pub version : Version
  pub among : One (λ a. a ≡ account) accounts
  pub last : last_of uuid account.versions ≡ Some version
  pub live : IsLive version.body

-- these are all such items, each once
pub record AreLiveItems (accounts : List Account) (uuids : List Bytes) : Type 0 where
  pub apart : AllDiffer uuids
  pub each : Each (IsLiveItem accounts) uuids
  pub all : (uuid : Bytes) → IsLiveItem accounts uuid → One (λ u. u ≡ uuid) uuids
