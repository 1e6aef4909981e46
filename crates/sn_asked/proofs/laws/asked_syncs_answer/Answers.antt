use Rattle.sn_asked.proofs.SyncsAnswer.{asked_syncs_answer}
use Rattle.sn_asked.proofs.laws.asked_syncs_answer.Goals as goal

pub returns : goal.returns
returns c = asked_syncs_answer (record {
  rounds = record {
    apart = c.accounts_apart.ensures;
    commit = c.keeps_committing.ensures;
    make = c.keeps_making.ensures;
    serve = c.keeps_serving.ensures;
    tells = c.served_tells.ensures;
    sends = c.sends_are_posted.ensures;
    says = c.says_some.ensures;
  };
  keeps = c.keeps.ensures;
  says = c.says_some.ensures;
  changed = c.changed_adopts.ensures;
  rise = c.versions_rise.ensures;
  one_stamp = c.one_stamp.ensures;
})
