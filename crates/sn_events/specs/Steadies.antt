-- A device that is fit for any call.
use Rattle.std.specs.Prelude.{◌≡◌}
use Rattle.sn_client.specs.Calls.{device_rows}
use Rattle.sn_device.specs.States.{IsSound}
use Rattle.sn_client.specs.declared.device.Device.{Device as AnyDevice}
use Rattle.sn_disk.specs.declared.disk.Disk.{Ghosts}
use Rattle.sn_events.specs.declared.steady.Holding.{Holding}
use Rattle.sn_events.specs.declared.steady.Holding.TheVariants.{Device}

module _ {D : Type 0} {g : Ghosts D} where
  -- its rows are sound, and it takes a set of each cost
  pub record IsSteady (device : AnyDevice D g) : Type 0 where
    pub sound : IsSound (device_rows device)
    pub least : device.least_cost ≡ 1

abbrev pub IsSteadyHeld : Holding → Type 0
IsSteadyHeld (Device device place) = IsSteady device
