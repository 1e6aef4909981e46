use Rattle.sn_tail.specs.Facts.{one_list}
use Rattle.sn_tail.proofs.laws.is_one_list.Goals as goal

pub returns : goal.returns
returns c = one_list
