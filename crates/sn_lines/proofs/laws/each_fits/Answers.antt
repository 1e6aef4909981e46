use Rattle.sn_lines.proofs.FitsAlong.{each_fits}
use Rattle.sn_lines.proofs.laws.each_fits.Goals as goal

pub returns : goal.returns
returns c = each_fits c.requests_fit.ensures c.steps_fit.ensures
