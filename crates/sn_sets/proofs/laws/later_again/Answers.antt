use Rattle.sn_sets.proofs.LaterLemmas.{later_again, later_at_once}
use Rattle.sn_sets.proofs.laws.later_again.Goals as goal

pub returns-clause-nothing : goal.returns-clause-nothing
returns-clause-nothing c = later_at_once

pub returns-clause-again : goal.returns-clause-again
returns-clause-again c = later_again
