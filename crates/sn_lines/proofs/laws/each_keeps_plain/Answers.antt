use Rattle.sn_lines.proofs.PlainLines.{each_keeps_plain}
use Rattle.sn_lines.proofs.laws.each_keeps_plain.Goals as goal

pub returns : goal.returns
returns c = each_keeps_plain c.keeps_plain.ensures
