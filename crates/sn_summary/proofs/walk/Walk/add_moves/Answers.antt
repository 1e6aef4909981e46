use Rattle.std.proofs.Common.{arith}
use Rattle.sn_summary.proofs.WalkLemmas.{goes_one_further}
use Rattle.sn_summary.proofs.walk.Walk.add_moves.Goals as goal

pub moves-preserved : goal.moves-preserved
moves-preserved c =
    goes_one_further c.args.self.now c.moves.self c.step.new.self c.args.moves.now c.moves.made-index c.made-item.result (omega arith) c.made-item.is
    c.moves.invariant c.in_ok-step.ensures
