use Rattle.std.proofs.Common.{◌≡◌, ◌++◌, string_bytes, drop}
use Rattle.std.specs.List.{flat_map}
use Rattle.sn_report.specs.Text.{line_text}
use Rattle.sn_report.proofs.writing.push_shown.Given as goal

abbrev pub invariant-shown : goal.invariant-shown
invariant-shown l =
    string_bytes l.text ++ flat_map (line_text l.number) (drop l.line-index l.shown) ≡ string_bytes l.fn.text ++ flat_map (line_text l.number) l.shown
