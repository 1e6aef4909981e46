-- The disks of the ends as slots, and how their records grow.
use Rattle.std.specs.Prelude.{◌++◌, ℕ, None, Some, codes}
use Rattle.std.specs.declared.option.Option.{Option}
use Rattle.sn_disk.specs.Shelf.{Slot, holds, out, unknown}
use Rattle.sn_disk.specs.declared.memory.MemDisk.{MemDisk}
use Rattle.sn_events.specs.Devices.{device_of}
use Rattle.sn_events.specs.Growing.{held_disk}
use Rattle.sn_events.specs.declared.ends.Ends.{Ends}
use Rattle.sn_events.specs.declared.steady.Holding.{Holding}
use Rattle.sn_laws.specs.Lookups.{Bytes}
use Rattle.sn_link.specs.Deliveries.{held_disk as server_held_disk}
use Rattle.sn_link.specs.Links.{link_held}
use Rattle.sn_link.specs.declared.delivery.Held.{Held}
use Rattle.sn_tail.specs.Marks.{mark_of}
use Rattle.sn_tail.specs.Shelves.{SlotGrows}

-- the server's disk
abbrev pub slot_of_held : Option Held → Slot MemDisk
slot_of_held None = unknown
slot_of_held (Some held) = holds (server_held_disk held)

abbrev pub server_slot : Ends → Slot MemDisk
server_slot ends = slot_of_held (link_held ends.link)

-- the disk of the device of a name, where it has one
abbrev pub slot_of_device : Option Holding → Slot MemDisk
slot_of_device None = unknown
slot_of_device (Some holding) = holds (held_disk holding)

abbrev pub device_slot : Ends → Bytes → Slot MemDisk
device_slot ends name = slot_of_device (device_of ends.devices name)

-- the record of each disk grew, or began
pub record EndsGrow (old new : Ends) : Type 0 where
  pub server : SlotGrows (server_slot old) (server_slot new)
  pub devices : (name : Bytes) → SlotGrows (device_slot old name) (device_slot new name)

-- under which name a device's disk is put away
abbrev pub device_key : Bytes → Bytes
device_key name = codes "device-" ++ name

-- the present mark of a slot's disk
abbrev pub slot_mark : Slot MemDisk → ℕ
slot_mark unknown = 0
slot_mark out = 0
slot_mark (holds disk) = mark_of disk
