use Rattle.sn_world.proofs.SyncsAnswer.{syncs_answer}
use Rattle.sn_world.proofs.answering_laws.syncs_answer.Goals as goal

pub returns : goal.returns
returns c = syncs_answer c.calls_fit.ensures (record {
  apart = c.accounts_apart.ensures;
  commit = c.keeps_committing.ensures;
  make = c.keeps_making.ensures;
  serve = c.keeps_serving.ensures;
  tells = c.served_tells.ensures;
  sends = c.sends_are_posted.ensures;
  says = c.says_some.ensures;
}) c.keeps.ensures c.says_some.ensures c.keeps_plain.ensures c.plain_rows.ensures c.versions_rise.ensures c.one_stamp.ensures
