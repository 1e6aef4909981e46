use Rattle.std.proofs.Common.{length}
use Rattle.sn_tail.specs.Tails.{ArePassed}
use Rattle.sn_tail.proofs.gates.place_of_end.Given as goal

abbrev pub invariant-batches : goal.invariant-batches
invariant-batches l = ArePassed l.bytes l.place l.gate l.rest

abbrev pub decreases-batches : goal.decreases-batches
decreases-batches l = length l.rest
