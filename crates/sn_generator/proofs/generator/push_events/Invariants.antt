use Rattle.std.proofs.Common.{◌≡◌, ◌++◌, List}
use Rattle.sn_script.specs.declared.script.Line.{Line}
use Rattle.sn_generator.specs.Generated.{AreEvents, drawn}
use Rattle.sn_generator.proofs.EventLemmas.{StandsAt}
use Rattle.sn_generator.proofs.generator.push_events.Given as goal

abbrev pub invariant-events : goal.invariant-events
invariant-events l = record {
  drawn_is : l.drawn ≡ drawn l.number l.before;
  stand : StandsAt l.number l.before l.puts;
  made : (events : List Line) × AreEvents l.number l.before events × (l.lines ≡ l.fn.lines ++ events);
}
