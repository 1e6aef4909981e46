use Rattle.sn_ready.proofs.PasswdsAnswer.{ready_passwds_answer}
use Rattle.sn_ready.proofs.laws.ready_passwds_answer.Goals as goal

pub returns : goal.returns
returns c = ready_passwds_answer (record {
  resolving = record {
    keeps = c.keeps.ensures;
    says = c.says_some.ensures;
    changed = c.changed_adopts.ensures;
    signed = c.signed_in_adopts.ensures;
  };
  whole = c.applied_whole.ensures;
  rounds = record {
    apart = c.accounts_apart.ensures;
    commit = c.keeps_committing.ensures;
    make = c.keeps_making.ensures;
    serve = c.keeps_serving.ensures;
    tells = c.served_tells.ensures;
    sends = c.sends_are_posted.ensures;
    says = c.says_some.ensures;
  };
}) c.versions_rise.ensures c.one_stamp.ensures c.synced_rows.ensures c.traces_fit.ensures
