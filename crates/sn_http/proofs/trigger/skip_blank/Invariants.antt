use Rattle.std.proofs.Common.{◌-◌, ◌≤◌, length}
use Rattle.sn_http.specs.Blanks.{IsBlank}
use Rattle.sn_http.proofs.trigger.skip_blank.Given as goal

abbrev pub invariant-blanks : goal.invariant-blanks
invariant-blanks l = record {
  within : l.at ≤ length l.bytes;
  blank : IsBlank l.at l.bytes;
}

abbrev pub decreases-blanks : goal.decreases-blanks
decreases-blanks l = length l.bytes - l.at
