use Rattle.sn_laws.proofs.StampLemmas.{ordered}
use Rattle.sn_laws.proofs.laws.versions_rise.Goals as goal

pub returns : goal.returns
returns c = ordered
