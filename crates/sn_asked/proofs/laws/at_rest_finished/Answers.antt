use Rattle.sn_asked.proofs.Resting.{at_rest_finished}
use Rattle.sn_asked.proofs.laws.at_rest_finished.Goals as goal

pub returns : goal.returns
returns c = at_rest_finished c.versions_rise.ensures
