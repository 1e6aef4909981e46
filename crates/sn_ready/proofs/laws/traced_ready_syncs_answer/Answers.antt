use Rattle.sn_ready.proofs.SyncsAnswer.{traced_ready_syncs_answer}
use Rattle.sn_ready.proofs.laws.traced_ready_syncs_answer.Goals as goal

pub returns : goal.returns
returns c =
    traced_ready_syncs_answer c.holds_first.ensures c.trace_keeps.ensures c.first_fits.ensures c.traces_fit.ensures c.ready_syncs_answer.ensures
