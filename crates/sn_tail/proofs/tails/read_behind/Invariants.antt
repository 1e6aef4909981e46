use Rattle.std.proofs.Common.{length}
use Rattle.sn_tail.specs.Tails.{AreBefore}
use Rattle.sn_tail.proofs.tails.read_behind.Given as goal

abbrev pub invariant-batches : goal.invariant-batches
invariant-batches l = AreBefore l.owner l.bytes l.place l.batches l.gate l.rest

abbrev pub decreases-batches : goal.decreases-batches
decreases-batches l = length l.rest
