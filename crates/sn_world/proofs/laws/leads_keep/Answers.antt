use Rattle.sn_world.proofs.CallLemmas.{leads_keep}
use Rattle.sn_world.proofs.laws.leads_keep.Goals as goal

pub returns : goal.returns
returns c = leads_keep c.keeps.ensures
