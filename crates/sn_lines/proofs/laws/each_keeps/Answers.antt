use Rattle.sn_lines.proofs.LinesGo.{each_keeps}
use Rattle.sn_lines.proofs.laws.each_keeps.Goals as goal

pub returns : goal.returns
returns c = each_keeps c.keeps.ensures
