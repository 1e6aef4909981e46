use Rattle.std.proofs.Common.{take}
use Rattle.sn_laws.specs.Runs.{Legal}
use Rattle.sn_summary.specs.Summaries.{moves_in}
use Rattle.sn_summary.specs.Walks.{IsAfter}
use Rattle.sn_summary.proofs.summary.summary_of.Given as goal

abbrev pub invariant-events : goal.invariant-events
invariant-events l = Legal (moves_in l.events) → IsAfter l.walk (moves_in (take l.event-index l.events))
