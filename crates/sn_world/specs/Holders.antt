-- Each set that a live last version carries is held by a device of its account.
use Rattle.std.specs.Prelude.{◌≡◌, ℕ, List, Some}
use Rattle.sn_laws.specs.Each.{One}
use Rattle.sn_laws.specs.Lookups.{Bytes, empty, last_of}
use Rattle.sn_laws.specs.Runs.{end, end_from}
use Rattle.sn_laws.specs.declared.ideal.Account.{Account}
use Rattle.sn_laws.specs.declared.ideal.Body.TheVariants.{Under}
use Rattle.sn_laws.specs.declared.ideal.Device.{Device}
use Rattle.sn_laws.specs.declared.ideal.Ideal.{Ideal}
use Rattle.sn_laws.specs.declared.ideal.Version.{Version}
use Rattle.sn_laws.specs.declared.moves.Move.{Move}
use Rattle.sn_shows.specs.Laws.{HasAccount}
use Rattle.sn_shows.specs.Servers.{account_at}
use Rattle.sn_world.specs.Happens.{Does, Happens, Says, Trace}
use Rattle.sn_world.specs.Holds.{Holds, TokensDiffer}
use Rattle.sn_world.specs.World.{World, at_first}

-- a device of the account holds the set of this number
pub record IsHeldBySome (s : Ideal) (a : Account) (number : ℕ) : Type 0 where
  pub name : Bytes
  pub device : Device
  pub has : HasAccount s name device a
  pub holds : One (λ m. m ≡ number) device.held

-- so is each set that an undeleted last version carries
abbrev pub AreHeld : Ideal → Type 0
AreHeld s = (n : ℕ) (a : Account) (uuid : Bytes) (v : Version) (text : Bytes) (number : ℕ) → account_at n s.accounts ≡ Some a
    → last_of uuid a.versions ≡ Some v → v.body ≡ Under text number → IsHeldBySome s a number

-- each step keeps it
abbrev pub KeepsHeld : Type 0
KeepsHeld = (secret : Bytes) (w next : World) (s : Ideal) (step : Happens) (moves : List Move) → TokensDiffer secret → Holds secret w s → AreHeld s
    → Does secret w s step next → Says w s step moves → AreHeld (end_from s moves)

-- whatever happens, from the beginning on
abbrev pub TracesHeld : Type 0
TracesHeld = (secret : Bytes) (steps : List Happens) (moves : List Move) (next : World)
    → TokensDiffer secret → Trace secret at_first empty steps moves next → AreHeld (end moves)
