use Rattle.sn_bound.proofs.ChangesBounded.{changes_bounded}
use Rattle.sn_bound.proofs.laws.changes_bounded.Goals as goal

pub returns : goal.returns
returns c = changes_bounded (record {
  resolving = record {
    keeps = c.keeps.ensures;
    says = c.says_some.ensures;
    changed = c.changed_adopts.ensures;
    signed = c.signed_in_adopts.ensures;
  };
  whole = c.applied_whole.ensures;
  rounds = record {
    apart = c.accounts_apart.ensures;
    commit = c.keeps_committing.ensures;
    make = c.keeps_making.ensures;
    serve = c.keeps_serving.ensures;
    tells = c.served_tells.ensures;
    sends = c.sends_are_posted.ensures;
    says = c.says_some.ensures;
  };
}) c.whole_begins.ensures c.whole_stays.ensures c.whole_changes.ensures c.synced_rows.ensures c.change_counts.ensures
