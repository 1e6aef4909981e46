use Rattle.sn_bound.proofs.CommitLemmas.{changes_commit}
use Rattle.sn_bound.proofs.laws.changes_commit.Goals as goal

pub returns : goal.returns
returns c = changes_commit c.change_counts.ensures
