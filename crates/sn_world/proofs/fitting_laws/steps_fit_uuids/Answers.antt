use Rattle.sn_world.proofs.FittingRows.{steps_fit_uuids}
use Rattle.sn_world.proofs.fitting_laws.steps_fit_uuids.Goals as goal

pub returns : goal.returns
returns c = steps_fit_uuids
