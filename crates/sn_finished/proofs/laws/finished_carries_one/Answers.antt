use Rattle.sn_finished.proofs.FinishedLemmas.{finished_carries_one}
use Rattle.sn_finished.proofs.laws.finished_carries_one.Goals as goal

pub returns : goal.returns
returns c = finished_carries_one c.finished_carries.ensures
