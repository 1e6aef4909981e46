use Rattle.std.proofs.Common.{[], refl}
use Rattle.sn_client.specs.Calls.{device_disk}
use Rattle.sn_journal.specs.declared.owner.Owner.TheVariants.{Device}
use Rattle.sn_events.proofs.Growing.{fresh_made, fresh_on}
use Rattle.sn_events.proofs.Opening.{fresh_each}
use Rattle.sn_events.proofs.devices.fresh_device.Goals as goal

pub returns-in-Ok-clause-fresh : goal.returns-in-Ok-clause-fresh
returns-in-Ok-clause-fresh c =
    (c.in-Ok.ensures.same tt [] (fresh_each Device c.in_ok-disk.disk _ c.in_ok-disk.ensures.state c.new.ensures.items refl)).0

pub returns-in-Ok-clause-disk : goal.returns-in-Ok-clause-disk
returns-in-Ok-clause-disk c = fresh_on c.in_ok-disk.disk (device_disk c.in-Ok.device) c.in-Ok.ensures.grows (fresh_made c.in_ok-disk.disk _ c.in_ok-disk.ensures.state c.new.ensures.items)
