use Rattle.std.proofs.Common.{◌-◌, ◌≤◌, length}
use Rattle.sn_http.proofs.Ends.{NoneEnds}
use Rattle.sn_http.proofs.trigger.may_end_past.Given as goal

abbrev pub invariant-ends : goal.invariant-ends
invariant-ends l = record {
  fits : l.at ≤ length l.bytes;
  later : l.seen ≤ l.at;
  none : NoneEnds l.seen l.at l.bytes;
}

abbrev pub decreases-ends : goal.decreases-ends
decreases-ends l = length l.bytes - l.at
