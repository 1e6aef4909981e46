use Rattle.std.proofs.Common.{◌∙◌, List, ℕ, ap}
use Rattle.sn_net.specs.Times.{time_at}
use Rattle.sn_net.proofs.Given.{gains}
use Rattle.sn_net.proofs.mem_clock.MemClockClock.now.Goals as goal

pub returns-clause-gains : goal.returns-clause-gains
returns-clause-gains c =
    gains c.args.self.now.times.items c.args.self.now.given c.saturating_add-self.result c.time_of-now.result c.saturating_add-self.ensures (
    c.time_of-now.ensures ∙ ap (λ (times : List ℕ). time_at times c.args.self.now.given) c.deref.ensures.value
    )
