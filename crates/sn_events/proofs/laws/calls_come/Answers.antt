use Rattle.sn_events.proofs.Coming.{calls_come}
use Rattle.sn_events.proofs.laws.calls_come.Goals as goal

pub returns : goal.returns
returns c = calls_come c.each_leads.ensures c.each_keeps.ensures c.exchanges_have_fates.ensures c.stays_sound.ensures
