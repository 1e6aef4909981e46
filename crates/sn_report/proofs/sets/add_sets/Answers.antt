use Rattle.std.proofs.Common.{arith}
use Rattle.sn_report.proofs.WritingLemmas.{sets_end, sets_step}
use Rattle.sn_report.proofs.sets.add_sets.Goals as goal

pub moves-preserved : goal.moves-preserved
moves-preserved c =
    sets_step c.moves.sets _ _ c.made-item.result c.args.moves.now c.moves.made-index (omega arith) c.made-item.is c.in_ok-add_set.ensures c.moves.invariant

pub returns : goal.returns
returns c = sets_end _ _ c.args.moves.now c.moves.made-index (omega arith) c.moves.invariant
