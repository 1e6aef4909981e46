use Rattle.sn_ready.proofs.Counts.{change_counts}
use Rattle.sn_ready.proofs.laws.change_counts.Goals as goal

pub returns : goal.returns
returns c = change_counts
