use Rattle.sn_events.proofs.Redelivering.{again_comes}
use Rattle.sn_events.proofs.laws.again_comes.Goals as goal

pub returns : goal.returns
returns c = again_comes c.again_leads.ensures c.each_keeps.ensures c.stays_sound.ensures c.agains_have_fates.ensures
