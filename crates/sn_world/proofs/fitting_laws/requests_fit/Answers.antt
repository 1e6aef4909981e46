use Rattle.sn_world.proofs.FittingCalls.{requests_fit}
use Rattle.sn_world.proofs.fitting_laws.requests_fit.Goals as goal

pub returns : goal.returns
returns c = requests_fit c.steps_fit.ensures
