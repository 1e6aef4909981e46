use Rattle.std.proofs.Common.{◌≡◌, ◌++◌, [], string_bytes, drop}
use Rattle.sn_report.specs.Text.{events_text}
use Rattle.sn_report.proofs.writing.report_text.Given as goal

abbrev pub invariant-events : goal.invariant-events
invariant-events l = string_bytes l.text ++ events_text l.labels l.sets (drop l.event-index l.events) ≡ events_text [] [] l.events
