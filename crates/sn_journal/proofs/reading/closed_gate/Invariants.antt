use Rattle.std.proofs.Common.{◌≡◌, ◌++◌, List, ℕ, length, All}
use Rattle.std.specs.List.{flat_map}
use Rattle.sn_journal.specs.Image.{batch, IsBounded}
use Rattle.sn_journal.specs.Reading.{ArePassed}
use Rattle.sn_journal.proofs.reading.closed_gate.Given as goal

abbrev pub invariant-batches : goal.invariant-batches
invariant-batches l = ArePassed l.bytes l.payloads l.count

abbrev pub decreases-batches : goal.decreases-batches
decreases-batches l = length l.payloads
