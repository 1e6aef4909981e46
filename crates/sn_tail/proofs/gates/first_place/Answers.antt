use Rattle.std.proofs.Common.{sym}
use Rattle.sn_tail.specs.Facts.{first_gate}
use Rattle.sn_tail.proofs.gates.first_place.Goals as goal

pub returns : goal.returns
returns c = λ owner. sym (first_gate owner)
