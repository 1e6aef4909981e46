use Rattle.sn_world.proofs.SyncsAnswer.{traced_syncs_answer}
use Rattle.sn_world.proofs.answering_laws.traced_syncs_answer.Goals as goal

pub returns : goal.returns
returns c =
    traced_syncs_answer c.plain_first.ensures c.keeps_plain.ensures c.first_fits.ensures c.traces_fit.ensures c.syncs_answer.ensures
