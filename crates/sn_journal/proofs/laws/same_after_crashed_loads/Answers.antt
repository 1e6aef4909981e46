use Rattle.sn_journal.specs.Findings.{crashed_loads}
use Rattle.sn_journal.proofs.laws.same_after_crashed_loads.Goals as goal

pub returns : goal.returns
returns c = crashed_loads
