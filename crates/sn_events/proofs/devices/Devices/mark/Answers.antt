use Rattle.std.proofs.Common.{sym, subst}
use Rattle.sn_events.specs.Devices.{device_of}
use Rattle.sn_events.specs.declared.steady.Holding.{Holding}
use Rattle.sn_events.proofs.Marking.{IsMarkOf, marked_there}
use Rattle.sn_events.proofs.devices.Devices.mark.Goals as goal

pub returns-in-Some : goal.returns-in-Some
unfolding device_of
returns-in-Some c = λ rows.
    marked_there (device_of c.args.self.now c.args.name.now) c.in-Some.steady.now c.device_mark.result rows c.in-Some.ensures.value
    (subst (λ (h : Holding). IsMarkOf h c.device_mark.result) (sym c.device.ensures) c.device_mark.ensures)
