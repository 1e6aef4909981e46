use Rattle.sn_finished.proofs.HeldLemmas.{next_changes}
use Rattle.sn_finished.proofs.laws.next_changes.Goals as goal

pub returns : goal.returns
returns c = next_changes c.finished_carries.ensures
