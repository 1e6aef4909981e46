use Rattle.sn_world.proofs.FittingRows.{fresh_fits}
use Rattle.sn_world.proofs.fitting_laws.fresh_fits.Goals as goal

pub returns : goal.returns
returns c = fresh_fits c.fresh_is_sound.ensures
