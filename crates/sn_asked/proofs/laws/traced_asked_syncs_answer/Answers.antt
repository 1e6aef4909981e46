use Rattle.sn_asked.proofs.SyncsAnswer.{traced_asked_syncs_answer}
use Rattle.sn_asked.proofs.laws.traced_asked_syncs_answer.Goals as goal

pub returns : goal.returns
returns c =
    traced_asked_syncs_answer c.holds_first.ensures c.trace_keeps.ensures c.first_fits.ensures c.traces_fit.ensures c.asked_syncs_answer.ensures
