use Rattle.sn_journal.specs.Findings.{one_finding}
use Rattle.sn_journal.proofs.laws.one_finding.Goals as goal

pub returns : goal.returns
returns c = one_finding
