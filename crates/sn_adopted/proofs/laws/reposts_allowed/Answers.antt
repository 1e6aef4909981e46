use Rattle.sn_adopted.proofs.Reposted.{reposts_allowed}
use Rattle.sn_adopted.proofs.laws.reposts_allowed.Goals as goal

pub returns : goal.returns
returns c = reposts_allowed
