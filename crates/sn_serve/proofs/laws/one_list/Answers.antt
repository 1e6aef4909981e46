use Rattle.sn_serve.proofs.OneList.{one_list}
use Rattle.sn_serve.proofs.laws.one_list.Goals as goal

pub returns : goal.returns
returns g c = one_list
