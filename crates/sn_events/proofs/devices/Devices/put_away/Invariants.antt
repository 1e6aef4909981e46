-- Each device is still to be put away, or its disk stands on the shelf.
use Rattle.std.specs.BTreeMap.{btree_map_len}
use Rattle.sn_events.proofs.PutAway.{AreMoved}
use Rattle.sn_events.proofs.devices.Devices.put_away.Given as goal

abbrev pub invariant-devices : goal.invariant-devices
invariant-devices l = AreMoved l.initial.named l.named l.initial.shelf l.shelf

abbrev pub decreases-devices : goal.decreases-devices
decreases-devices l = btree_map_len l.named
