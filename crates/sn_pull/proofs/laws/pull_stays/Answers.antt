use Rattle.sn_pull.proofs.StaysLemmas.{pull_stays}
use Rattle.sn_pull.proofs.laws.pull_stays.Goals as goal

pub returns : goal.returns
returns c = pull_stays
