use Rattle.sn_world.proofs.FittingWorlds.{devices_fit}
use Rattle.sn_world.proofs.fitting_laws.devices_fit.Goals as goal

pub returns : goal.returns
returns c = devices_fit c.steps_fit_uuids.ensures
