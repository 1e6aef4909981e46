use Rattle.sn_world.proofs.FittingCalls.{runs_stay_fitting}
use Rattle.sn_world.proofs.fitting_laws.runs_stay_fitting.Goals as goal

pub returns : goal.returns
returns c = runs_stay_fitting c.runs_by_steps.ensures c.steps_fit.ensures c.requests_fit.ensures
