use Rattle.sn_passwd.proofs.Ending.{passwds_end}
use Rattle.sn_passwd.proofs.laws.passwds_end.Goals as goal
use Rattle.sn_shows.proofs.Facts.{accounts_apart}

pub returns : goal.returns
returns c = passwds_end (record {
  resolving = record {
    keeps = c.keeps.ensures;
    says = c.says_some.ensures;
    changed = c.changed_adopts.ensures;
    signed = c.signed_in_adopts.ensures;
  };
  whole = c.applied_whole.ensures;
  rounds = record {
    apart = accounts_apart;
    commit = c.keeps_committing.ensures;
    make = c.keeps_making.ensures;
    serve = c.keeps_serving.ensures;
    tells = c.served_tells.ensures;
    sends = c.sends_are_posted.ensures;
    says = c.says_some.ensures;
  };
}) c.synced_rows.ensures c.finished_carries.ensures
