use Rattle.std.proofs.Common.{◌≡◌, ◌-◌, ◌≤◌, drop, length}
use Rattle.sn_http.specs.Options.{skip_spaces}
use Rattle.sn_http.proofs.options.skip_spaces.Given as goal

abbrev pub invariant-spaces : goal.invariant-spaces
invariant-spaces l = record {
  within : l.at ≤ length l.text;
  same : skip_spaces l.text ≡ skip_spaces (drop l.at l.text);
}

abbrev pub decreases-spaces : goal.decreases-spaces
decreases-spaces l = length l.text - l.at
