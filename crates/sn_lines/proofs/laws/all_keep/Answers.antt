use Rattle.sn_lines.proofs.LinesGo.{all_keep}
use Rattle.sn_lines.proofs.laws.all_keep.Goals as goal

pub returns : goal.returns
returns c = all_keep c.holds_first.ensures c.all_go.ensures
