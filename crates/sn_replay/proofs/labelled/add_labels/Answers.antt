use Rattle.sn_replay.proofs.Steps.{labels_next}
use Rattle.sn_replay.proofs.labelled.add_labels.Goals as goal

pub moves-preserved : goal.moves-preserved
moves-preserved c =
    labels_next c.args.puts c.args.labels.now c.moves.labels c.make_label.new.labels c.args.moves.now c.moves.made-index c.made-item.result c.moves-test.true
    c.made-item.is c.moves.invariant c.in_ok-make_label.ensures.made
