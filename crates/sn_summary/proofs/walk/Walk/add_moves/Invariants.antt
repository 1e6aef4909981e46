use Rattle.std.proofs.Common.{take}
use Rattle.sn_summary.specs.Walks.{GoesOn}
use Rattle.sn_summary.proofs.walk.Walk.add_moves.Given as goal

abbrev pub invariant-moves : goal.invariant-moves
invariant-moves l = GoesOn l.fn.self l.self (take l.made-index l.moves)
