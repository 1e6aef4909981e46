use Rattle.sn_lines.proofs.FitsAlong.{all_keep_by}
use Rattle.sn_lines.proofs.laws.all_keep_by.Goals as goal

pub returns : goal.returns
returns c = all_keep_by c.holds_first.ensures c.all_fit_first.ensures c.all_go_by.ensures
