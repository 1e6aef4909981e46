use Rattle.sn_tail.specs.Facts.{longer_calls}
use Rattle.sn_tail.proofs.laws.record_grows.Goals as goal

pub returns-clause-calls : goal.returns-clause-calls
returns-clause-calls c = longer_calls
