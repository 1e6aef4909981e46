use Rattle.sn_ready.proofs.SyncsAnswer.{ready_syncs_answer}
use Rattle.sn_ready.proofs.laws.ready_syncs_answer.Goals as goal

pub returns : goal.returns
returns c = ready_syncs_answer c.calls_fit.ensures (record {
  apart = c.accounts_apart.ensures;
  commit = c.keeps_committing.ensures;
  make = c.keeps_making.ensures;
  serve = c.keeps_serving.ensures;
  tells = c.served_tells.ensures;
  sends = c.sends_are_posted.ensures;
  says = c.says_some.ensures;
}) c.keeps.ensures c.says_some.ensures c.versions_rise.ensures c.one_stamp.ensures
