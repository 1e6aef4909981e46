use Rattle.sn_lines.proofs.FitsAlong.{all_fit_first}
use Rattle.sn_lines.proofs.laws.all_fit_first.Goals as goal

pub returns : goal.returns
returns c = all_fit_first c.fresh_fits.ensures
