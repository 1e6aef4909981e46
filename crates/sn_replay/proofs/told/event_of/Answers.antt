use Rattle.std.proofs.Common.{◌≡◌, ℕ, List, refl, ap, sym, subst, ◌∙◌}
use Rattle.sn_events.specs.Slots.{device_slot, slot_mark}
use Rattle.sn_journal.specs.declared.owner.Owner.TheVariants.{Device as DeviceOwner}
use Rattle.sn_laws.specs.Lookups.{Bytes}
use Rattle.sn_tail.specs.Shelves.{SlotReads}
use Rattle.sn_replay.proofs.told.event_of.Goals as goal

pub returns : goal.returns
returns c =
    λ secret w s stands.
    let server = c.server_mark.ensures secret w s stands in
    let device = c.device_mark-mark.ensures secret w s stands in
    record {
      number_is = refl;
      puts_is = c.puts.ensures;
      moves_are = refl;
      shown_none = c.new.ensures;
      last_is = refl;
      server_mark = server.0;
      server_reads = server.1;
      mark = record { name = c.in_ok-device.device; mark = c.device_mark-mark.result };
      mark_is = refl;
      named = c.in_ok-device.ensures;
      device_mark = subst (λ (n : Bytes). c.device_mark-mark.result ≡ slot_mark (device_slot c.args.ends.now n)) c.as_str.ensures device.0;
      device_reads = subst (λ (n : Bytes). SlotReads (device_slot c.args.ends.now n) DeviceOwner c.device_mark-mark.result (w.devices n)) c.as_str.ensures device.1;
    }
