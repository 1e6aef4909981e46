use Rattle.sn_world.proofs.FittingWorlds.{traces_fit}
use Rattle.sn_world.proofs.fitting_laws.traces_fit.Goals as goal

pub returns : goal.returns
returns c = traces_fit c.keeps.ensures c.devices_fit.ensures
