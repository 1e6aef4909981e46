use Rattle.sn_link.proofs.Still.{gains_still}
use Rattle.sn_link.proofs.clock.StillClockClock.now.Goals as goal

pub returns-clause-gains : goal.returns-clause-gains
returns-clause-gains c =
    gains_still c.args.self.now.moment c.args.self.now.given c.saturating_add-self.result c.saturating_add-self.ensures
