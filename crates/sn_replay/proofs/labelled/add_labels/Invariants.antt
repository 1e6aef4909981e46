use Rattle.std.specs.Prelude.{◌≡◌, take}
use Rattle.sn_report.specs.Labels.{labels_of}
use Rattle.sn_replay.proofs.labelled.add_labels.Given as goal

abbrev pub invariant-moves : goal.invariant-moves
invariant-moves l = l.labels ≡ labels_of l.puts l.initial.labels (take l.made-index l.moves)
