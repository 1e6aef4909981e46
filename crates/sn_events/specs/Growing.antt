-- The disks of the ends go on: behind an event each is the one that it was, of which more calls were made.
use Rattle.std.specs.Prelude.{◌≡◌, ◌≢◌, ℕ, [], None, Some}
use Rattle.std.specs.declared.option.Option.{Option}
use Rattle.sn_client.specs.Calls.{device_disk}
use Rattle.sn_disk.specs.MemDisk.{Grows, disk_told}
use Rattle.sn_disk.specs.declared.memory.MemDisk.{MemDisk}
use Rattle.sn_events.specs.Devices.{device_of}
use Rattle.sn_events.specs.declared.ends.Ends.{Ends}
use Rattle.sn_events.specs.declared.steady.Holding.{Holding}
use Rattle.sn_events.specs.declared.steady.Holding.TheVariants.{Device}
use Rattle.sn_laws.specs.Lookups.{Bytes}
use Rattle.sn_link.specs.Holdings.{GoesOn}
use Rattle.sn_link.specs.Links.{link_held}
use Rattle.sn_link.specs.declared.delivery.Held.{Held}
use Rattle.sn_link.specs.declared.delivery.Held.TheVariants.{Broken, Open}
use Rattle.sn_server.specs.Stores.{server_disk}

-- the disk was made without bytes
abbrev pub IsFreshDisk : MemDisk → Type 0
IsFreshDisk disk = (disk_told disk).start ≡ []

abbrev pub held_disk : Holding → MemDisk
held_disk (Device device place) = device_disk device

abbrev pub held_place : Holding → ℕ
held_place (Device device place) = place

-- the device of a name goes on; a name that had none has begun on a disk that was made without bytes
abbrev pub ComesFrom : Option Holding → Holding → Type 0
ComesFrom None after = IsFreshDisk (held_disk after)
ComesFrom (Some before) after = Grows (held_disk before) (held_disk after)

-- behind a call of the device of this name
pub record EndsGoOn (name : Bytes) (old new : Ends) : Type 0 where
  pub server : GoesOn (link_held old.link) (link_held new.link)
  pub device : Holding
  pub own : device_of new.devices name ≡ Some device
  pub from : ComesFrom (device_of old.devices name) device
  pub others : (other : Bytes) → other ≢ name → device_of new.devices other ≡ device_of old.devices other

-- a server that is open on a disk that was made without bytes
abbrev pub IsFreshHeld : Option Held → Type 0
IsFreshHeld None = ⊥
IsFreshHeld (Some (Open server)) = IsFreshDisk (server_disk server)
IsFreshHeld (Some (Broken disk)) = ⊥
