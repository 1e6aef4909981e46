-- What the rows of all ends show.
use Rattle.sn_laws.specs.Lookups.{Bytes}
use Rattle.sn_laws.specs.declared.ideal.Ideal.{Ideal}
use Rattle.sn_rows.specs.Table.{Rows}
use Rattle.sn_shows.specs.Devices.{ShowsDevice}
use Rattle.sn_shows.specs.Servers.{ShowsServer}

-- the rows of the server and of each device, by its name, show the ideal state
pub record Shows (at_server : Rows) (at_device : Bytes → Rows) (s : Ideal) : Type 0 where
  pub server : ShowsServer at_server s.accounts
  pub devices : (name : Bytes) → ShowsDevice (at_device name) s name
