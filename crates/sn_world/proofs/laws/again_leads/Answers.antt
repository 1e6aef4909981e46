use Rattle.sn_world.proofs.Sessions.{leads_again}
use Rattle.sn_world.proofs.laws.again_leads.Goals as goal

pub returns : goal.returns
returns c = leads_again c.says_some.ensures
