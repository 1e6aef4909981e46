use Rattle.sn_lines.proofs.FitsAlong.{each_served}
use Rattle.sn_lines.proofs.laws.each_served.Goals as goal

pub returns : goal.returns
returns c = each_served c.requests_fit.ensures
