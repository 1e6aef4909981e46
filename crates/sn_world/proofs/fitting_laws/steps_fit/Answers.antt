use Rattle.sn_world.proofs.FittingRows.{steps_fit}
use Rattle.sn_world.proofs.fitting_laws.steps_fit.Goals as goal

pub returns : goal.returns
returns c = steps_fit c.steps_stay_sound.ensures c.steps_fit_uuids.ensures
