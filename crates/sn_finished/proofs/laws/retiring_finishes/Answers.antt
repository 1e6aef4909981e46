use Rattle.sn_finished.proofs.FinishedLemmas.{retiring_finishes}
use Rattle.sn_finished.proofs.laws.retiring_finishes.Goals as goal

pub returns : goal.returns
returns c = retiring_finishes
