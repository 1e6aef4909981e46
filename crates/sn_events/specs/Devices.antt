-- Devices in memory, by their names.
use Rattle.std.specs.Prelude.{◌≡◌, ℕ, List, None, Some}
use Rattle.std.specs.declared.option.Option.{Option}
use Rattle.std.specs.BTreeMap.{get_by_text}
use Rattle.sn_client.specs.Calls.{IsOpen}
use Rattle.sn_client.specs.declared.device.Device.{Device as AnyDevice}
use Rattle.sn_disk.specs.declared.disk.Disk.{Ghosts}
use Rattle.sn_journal.specs.declared.owner.Owner.TheVariants.{Device as DeviceOwner}
use Rattle.sn_rows.specs.Table.{Rows, no_rows, rows_of_batches}
use Rattle.sn_rows.specs.declared.change.Change.{Change}
use Rattle.sn_table.specs.Kept.{kept_of}
use Rattle.sn_tail.specs.Places.{place_behind}
use Rattle.sn_events.specs.declared.devices.Devices.{Devices}
use Rattle.sn_events.specs.declared.steady.Holding.TheVariants.{Device}
use Rattle.sn_events.specs.declared.steady.Steady.{Steady}

-- the device of a name with its place, where it has one
unfoldable pub device_of : Devices → List ℕ → Option Steady
device_of devices name = get_by_text devices.named name

module _ {D : Type 0} {g : Ghosts D} where
  -- it is open, the batches that its disk stands for leave these rows, and the place is that of the gate behind them
  pub record DeviceHas (device : AnyDevice D g) (place : ℕ) (rows : Rows) : Type 0 where
    pub batches : List (List Change)
    pub open_is : IsOpen device (kept_of batches)
    pub rows_are : rows_of_batches batches ≡ rows
    pub place_is : place ≡ place_behind DeviceOwner batches

-- so has the device of a name; a name that has no device has no rows
abbrev pub HasRows : Option Steady → Rows → Type 0
HasRows None rows = rows ≡ no_rows
HasRows (Some (Device device place)) rows = DeviceHas device place rows
