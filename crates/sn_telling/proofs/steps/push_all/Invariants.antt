use Rattle.std.proofs.Common.{◌≡◌, ◌++◌}
use Rattle.sn_telling.proofs.steps.push_all.Given as goal

abbrev pub invariant-said : goal.invariant-said
invariant-said l = l.moves ≡ l.fn.moves ++ l.yielded
