use Rattle.sn_finished.proofs.FinishedLemmas.{stays_finished}
use Rattle.sn_finished.proofs.laws.stays_finished.Goals as goal

pub returns : goal.returns
returns c = stays_finished
