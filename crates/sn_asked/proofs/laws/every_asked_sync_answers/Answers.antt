use Rattle.sn_asked.proofs.SyncsAnswer.{every_asked_sync_answers}
use Rattle.sn_asked.proofs.laws.every_asked_sync_answers.Goals as goal

pub returns : goal.returns
returns c = every_asked_sync_answers (record {
  rounds = record {
    apart = c.accounts_apart.ensures;
    commit = c.keeps_committing.ensures;
    make = c.keeps_making.ensures;
    serve = c.keeps_serving.ensures;
    tells = c.served_tells.ensures;
    sends = c.sends_are_posted.ensures;
    says = c.says_some.ensures;
  };
  keeps = c.keeps.ensures;
  says = c.says_some.ensures;
  changed = c.changed_adopts.ensures;
  rise = c.versions_rise.ensures;
  one_stamp = c.one_stamp.ensures;
})
