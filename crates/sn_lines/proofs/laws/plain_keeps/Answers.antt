use Rattle.sn_lines.proofs.PlainLines.{plain_keeps}
use Rattle.sn_lines.proofs.laws.plain_keeps.Goals as goal

pub returns : goal.returns
returns c = plain_keeps c.each_leads.ensures c.each_keeps.ensures c.each_keeps_plain.ensures
