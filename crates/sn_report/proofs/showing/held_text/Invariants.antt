use Rattle.std.proofs.Common.{◌≡◌, ◌++◌, string_bytes, drop}
use Rattle.sn_report.specs.Showing.{held_text}
use Rattle.sn_report.proofs.showing.held_text.Given as goal

abbrev pub invariant-held : goal.invariant-held
invariant-held l = string_bytes l.text ++ held_text (drop l.number-index l.held) ≡ held_text l.held
