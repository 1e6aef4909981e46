use Rattle.std.proofs.Common.{◌≡◌, ◌≤◌, ◌-◌, length, take}
use Rattle.sn_journal.proofs.beginning.common_front.Given as goal

abbrev pub invariant-same : goal.invariant-same
invariant-same l = record { within : l.place ≤ length l.bytes; within_other : l.place ≤ length l.other; same : take l.place l.bytes ≡ take l.place l.other }

abbrev pub decreases-same : goal.decreases-same
decreases-same l = length l.bytes - l.place
