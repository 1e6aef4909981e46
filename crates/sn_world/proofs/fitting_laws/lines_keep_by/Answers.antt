use Rattle.sn_world.proofs.FittingWorlds.{lines_keep_by}
use Rattle.sn_world.proofs.fitting_laws.lines_keep_by.Goals as goal

pub returns : goal.returns
returns c = lines_keep_by c.plain_first.ensures c.first_fits.ensures c.lines_go_by.ensures
