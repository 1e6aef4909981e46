use Rattle.sn_asked.proofs.Counts.{asked_counts}
use Rattle.sn_asked.proofs.laws.asked_counts.Goals as goal

pub returns : goal.returns
returns c = asked_counts
