use Rattle.sn_lines.proofs.LinesGo.{all_go}
use Rattle.sn_lines.proofs.laws.all_go.Goals as goal

pub returns : goal.returns
returns c = all_go c.each_leads.ensures c.each_keeps.ensures
