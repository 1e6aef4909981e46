use Rattle.std.proofs.Common.{◌≡◌, ◌++◌, string_bytes, length}
use denote.Text.{Utf8}
use denote.Shadow.{shadow}
use Rattle.sn_report.specs.Labels.{relabelled}
use Rattle.sn_report.proofs.labels.Labels.relabelled.Given as goal

-- says that each `&str` the loop changes is text: keep it, and add clauses with ×
abbrev pub invariant-fronts : goal.invariant-fronts
invariant-fronts l = shadow (Utf8 l.rest) × (string_bytes l.printed ++ relabelled l.self l.rest ≡ relabelled l.self l.fn.text)

abbrev pub decreases-fronts : goal.decreases-fronts
decreases-fronts l = length l.rest
