use Rattle.std.specs.Prelude.{◌≡◌, ◌++◌}
use Rattle.sn_shown.proofs.account_lines.add_list.Given as goal

abbrev pub invariant-texts : goal.invariant-texts
invariant-texts l = l.lines ≡ l.initial.lines ++ l.yielded
