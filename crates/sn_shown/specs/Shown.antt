-- What `show` goes by: rows of both ends that show a state.
use Rattle.std.specs.Prelude.{◌≡◌, ℕ, List, Some}
use Rattle.sn_laws.specs.Each.{Each, One}
use Rattle.sn_laws.specs.Lookups.{Bytes, account_of, device_named, last_of}
use Rattle.sn_laws.specs.Reached.{HoldsSets, NoncesApart}
use Rattle.sn_laws.specs.declared.ideal.Account.{Account}
use Rattle.sn_laws.specs.declared.ideal.Body.TheVariants.{Under}
use Rattle.sn_laws.specs.declared.ideal.Device.{Device}
use Rattle.sn_laws.specs.declared.ideal.Ideal.{Ideal}
use Rattle.sn_laws.specs.declared.ideal.Version.{Version}
use Rattle.sn_rows.specs.Table.{Rows}
use Rattle.sn_shows.specs.Devices.{ShowsDevice}
use Rattle.sn_shows.specs.Laws.{AreApart}
use Rattle.sn_shows.specs.Servers.{ShowsServer}

-- identifiers are of one account each, nonces of one set of an account, and a device holds one or two of its account's sets: so it is of
-- each state that legal moves lead to
pub record IsRegular (s : Ideal) : Type 0 where
  pub identifiers : AreApart s.accounts
  pub nonces : Each NoncesApart s.accounts
  pub held : (name : Bytes) (d : Device) → device_named s name ≡ Some d → HoldsSets (account_of s name) d

-- the device has the account, and holds its set of this number
pub record IsHolder (s : Ideal) (a : Account) (number : ℕ) (name : Bytes) : Type 0 where
  pub device : Device
  pub named : device_named s name ≡ Some device
  pub has : account_of s name ≡ Some a
  pub held : One (λ n. n ≡ number) device.held

-- one of these devices does
abbrev pub IsHeld : Ideal → List Bytes → Account → ℕ → Type 0
IsHeld s names a number = (name : Bytes) × One (λ n. n ≡ name) names × IsHolder s a number name

-- each set that a live last version carries is held by one of these devices
abbrev pub AreHeld : Ideal → List Bytes → Type 0
AreHeld s names = (a : Account) (uuid : Bytes) (v : Version) (text : Bytes) (number : ℕ) → One (λ b. b ≡ a) s.accounts
    → last_of uuid a.versions ≡ Some v → v.body ≡ Under text number → IsHeld s names a number

-- the rows of the server and of each device show the state, and these devices hold what its last versions are sealed under
pub record EndsShow (server : Rows) (devices : Bytes → Rows) (names : List Bytes) (s : Ideal) : Type 0 where
  pub regular : IsRegular s
  pub accounts : ShowsServer server s.accounts
  pub each : (name : Bytes) → ShowsDevice (devices name) s name
  pub held : AreHeld s names
