use Rattle.std.proofs.Common.{None, string_bytes}
use Rattle.std.proofs.lemmas.Map.Text.{btree_map_updates_text}
use Rattle.sn_events.proofs.PutAway.{moved_more}
use Rattle.sn_events.proofs.devices.Devices.put_away.Goals as goal

pub devices-preserved : goal.devices-preserved
devices-preserved c =
    moved_more c.args.self.named c.devices.named c.pop_first.new.self c.args.shelf.now c.devices.shelf c.put_disk.new.shelf (string_bytes c.in-Some.name) c.as_str.result.now
    c.in-Some.steady c.into_disk.result c.devices.invariant c.in-Some.ensures.value
    (btree_map_updates_text (string_bytes c.in-Some.name) c.devices.named c.pop_first.new.self None c.in-Some.ensures.updates) c.as_str.ensures.value c.into_disk.ensures
    c.in_ok-put_disk.ensures.put c.in_ok-put_disk.ensures.others
