use Rattle.std.proofs.Common.{◌≡◌, ◌+◌, ◌-◌, ◌≤◌, ◌<◌, ◌^◌, length}
use Rattle.sn_rows.specs.Spelling.{entries_of}
use Rattle.sn_rows.specs.Reading.{spot, entries_at, payload_at}
use Rattle.sn_rows.proofs.ReadingOn.{with_front}
use Rattle.sn_rows.proofs.reading.all_of.Given as goal

abbrev pub invariant-loop-rest : goal.invariant-loop-rest
invariant-loop-rest l = record {
  told : with_front (entries_of l.changes) (entries_at (length l.bytes - length l.changes) (spot l.place l.rest)) ≡ payload_at l.bytes;
  fewer : length l.rest + length l.changes ≤ length l.bytes;
  inside : l.place + length l.rest < 2 ^ 64;
}

abbrev pub decreases-loop-rest : goal.decreases-loop-rest
decreases-loop-rest l = length l.rest
