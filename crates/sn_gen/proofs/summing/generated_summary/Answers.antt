use Rattle.sn_gen.proofs.GenLemmas.{lines_bounded, passwords_apart}
use Rattle.sn_gen.proofs.summing.generated_summary.Goals as goal

pub replay-requires-clause-bounded : goal.replay-requires-clause-bounded
replay-requires-clause-bounded c = lines_bounded c.in_ok-script.script.lines c.in_ok-script.ensures.playable

pub returns-clause-summed : goal.returns-clause-summed
returns-clause-summed c = record {
  script = c.in_ok-script.script;
  generated = c.in_ok-script.ensures.lines;
  apart = passwords_apart c.args.number c.args.count c.in_ok-script.script c.in_ok-script.ensures.lines;
  report = c.in_ok-report.report;
  carries = c.in_ok-report.ensures.carries;
  summary = c.in_ok-summary.summary;
  sums = c.in_ok-summary.ensures;
  spelled = c.in_ok-text.ensures;
}
