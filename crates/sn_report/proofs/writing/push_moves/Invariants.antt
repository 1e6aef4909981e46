use Rattle.std.proofs.Common.{◌≡◌, ◌++◌, string_bytes, drop}
use Rattle.sn_report.specs.Labels.{labels_of}
use Rattle.sn_report.specs.Text.{moves_text}
use Rattle.sn_report.proofs.writing.push_moves.Given as goal

abbrev pub invariant-moves : goal.invariant-moves
invariant-moves l = record {
  labels : labels_of l.puts l.labels (drop l.made-index l.moves) ≡ labels_of l.puts l.fn.labels l.moves;
  text : string_bytes l.text ++ moves_text l.number l.puts l.labels (drop l.made-index l.moves)
      ≡ string_bytes l.fn.text ++ moves_text l.number l.puts l.fn.labels l.moves;
}
