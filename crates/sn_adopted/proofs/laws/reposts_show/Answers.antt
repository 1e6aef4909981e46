use Rattle.sn_adopted.proofs.Reposting.{reposts_show}
use Rattle.sn_adopted.proofs.laws.reposts_show.Goals as goal

pub returns : goal.returns
returns c = reposts_show
