use Rattle.std.proofs.Common.{arith}
use Rattle.sn_report.proofs.WritingLemmas.{labels_step, labels_end, moves_step, moves_end}
use Rattle.sn_report.proofs.writing.push_moves.Goals as goal

pub moves-preserved : goal.moves-preserved
moves-preserved c = record {
  labels = labels_step c.args.puts c.moves.labels _ _ c.made-item.result c.args.moves.now c.moves.made-index (omega arith) c.made-item.is
      c.in_ok-push_move.ensures.labels c.moves.invariant.labels;
  text = moves_step c.args.number c.args.puts c.moves.labels _ _ _ _ c.made-item.result c.args.moves.now c.moves.made-index (omega arith) c.made-item.is
      c.in_ok-push_move.ensures.labels c.in_ok-push_move.ensures.text c.moves.invariant.text;
}

pub returns-clause-labels : goal.returns-clause-labels
returns-clause-labels c = labels_end c.args.puts _ _ c.args.moves.now c.moves.made-index (omega arith) c.moves.invariant.labels

pub returns-clause-text : goal.returns-clause-text
returns-clause-text c =
    moves_end c.args.number c.args.puts c.moves.labels _ _ c.args.moves.now c.moves.made-index (omega arith) c.moves.invariant.text
