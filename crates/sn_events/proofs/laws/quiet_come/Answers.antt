use Rattle.sn_events.proofs.Coming.{quiet_come}
use Rattle.sn_events.proofs.laws.quiet_come.Goals as goal

pub returns : goal.returns
returns c = quiet_come c.each_leads.ensures c.each_keeps.ensures
