use Rattle.sn_world.proofs.FittingItems.{sends_fit}
use Rattle.sn_world.proofs.fitting_laws.sends_fit.Goals as goal

pub returns : goal.returns
returns c = sends_fit
