use Rattle.std.proofs.Common.{◌∙◌, List, length, refl, sym, ap, subst, arith}
use Rattle.std.proofs.lemmas.List.{take_all}
use Rattle.sn_laws.specs.Runs.{Legal}
use Rattle.sn_report.specs.declared.report.Event.{Event}
use Rattle.sn_summary.specs.Summaries.{moves_in}
use Rattle.sn_summary.specs.Walks.{IsAfter}
use Rattle.sn_summary.proofs.WalkLemmas.{event_further, summed}
use Rattle.sn_summary.proofs.summary.summary_of.Goals as goal

pub events-preserved : goal.events-preserved
events-preserved c legal =
    event_further c.events.walk c.add_moves.new.self c.as_slice-events.result.now c.events.event-index c.event-item.result c.as_slice.result.now
    (omega arith) c.event-item.is c.as_slice.ensures legal (c.events.invariant legal) c.in_ok-add_moves.ensures

pub returns : goal.returns
returns c legal =
    summed c.args.report.now c.events.walk
    (record {
      events = length c.as_slice-events.result.now;
      items = c.len.result;
      versions = c.events.walk.versions;
      forks = c.events.walk.forks;
      drafts = c.len-2.result;
    })
    (subst (λ (es : List Event). IsAfter c.events.walk (moves_in es))
    (take_all c.events.event-index c.as_slice-events.result.now (omega arith) ∙ c.as_slice-events.ensures)
    (c.events.invariant (subst (λ (es : List Event). Legal (moves_in es)) (sym c.as_slice-events.ensures) legal)))
    c.len.ensures.ordered (ap length c.as_slice-events.ensures) c.len.ensures.len refl refl c.len-2.ensures.len
