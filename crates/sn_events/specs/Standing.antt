-- A server and devices in memory that stand as a world does.
use Rattle.sn_events.specs.Devices.{HasRows, device_of}
use Rattle.sn_events.specs.Servers.{ServesRows}
use Rattle.sn_events.specs.declared.ends.Ends.{Ends}
use Rattle.sn_laws.specs.Lookups.{Bytes}
use Rattle.sn_laws.specs.declared.ideal.Ideal.{Ideal}
use Rattle.sn_link.specs.Links.{link_held}
use Rattle.sn_world.specs.Holds.{Holds}
use Rattle.sn_world.specs.World.{World}

-- the server has the world's rows, and so has the device of each name, also after a crash, and each place is that of the gate behind the batches; and the
-- invariant holds between the world and the ideal state
pub record Stands (ends : Ends) (secret : Bytes) (w : World) (s : Ideal) : Type 0 where
  pub server : ServesRows (link_held ends.link) ends.place w.server
  pub devices : (name : Bytes) → HasRows (device_of ends.devices name) (w.devices name)
  pub holds : Holds secret w s
