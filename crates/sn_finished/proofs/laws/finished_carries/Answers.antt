use Rattle.sn_finished.proofs.FinishedLemmas.{finished_carries}
use Rattle.sn_finished.proofs.laws.finished_carries.Goals as goal

pub returns : goal.returns
returns c = finished_carries c.carries_two.ensures c.retired_unused.ensures
