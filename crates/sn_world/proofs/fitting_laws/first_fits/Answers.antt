use Rattle.sn_world.proofs.FittingWorlds.{first_fits}
use Rattle.sn_world.proofs.fitting_laws.first_fits.Goals as goal

pub returns : goal.returns
returns c = first_fits
