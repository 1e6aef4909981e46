use Rattle.sn_world.proofs.FittingWorlds.{calls_fit}
use Rattle.sn_world.proofs.fitting_laws.calls_fit.Goals as goal

pub returns : goal.returns
returns c = calls_fit c.steps_fit_uuids.ensures c.steps_stay_sound.ensures
