use Rattle.std.proofs.Common.{◌≡◌, drop}
use Rattle.sn_report.specs.Sets.{sets_of}
use Rattle.sn_report.proofs.sets.add_sets.Given as goal

abbrev pub invariant-moves : goal.invariant-moves
invariant-moves l = sets_of l.sets (drop l.made-index l.moves) ≡ sets_of l.fn.sets l.moves
