use Rattle.sn_world.proofs.CallFronts.{fronts_go}
use Rattle.sn_world.proofs.laws.fronts_go.Goals as goal

pub returns : goal.returns
returns c = fronts_go
