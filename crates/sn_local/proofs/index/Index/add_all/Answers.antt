use Rattle.std.proofs.Common.{arith}
use Rattle.sn_local.proofs.IndexLemmas.{after_changes, kept_rows, kept_twice, listed_more}
use Rattle.sn_local.proofs.index.Index.add_all.Goals as goal

pub changes-preserved : goal.changes-preserved
changes-preserved c = record {
  listed = listed_more c.changes.self c.add_change.new.self c.args.changes.now c.changes.change-index c.change-item.result c.add_change.ensures.kept
      c.changes-test.true c.change-item.is c.changes.invariant.listed c.in_ok-add_change.ensures.listed;
  kept = kept_twice c.args.self.now c.changes.self c.add_change.new.self c.changes.invariant.kept c.add_change.ensures.kept;
}

pub returns-in_err-add_change-clause-kept : goal.returns-in_err-add_change-clause-kept
returns-in_err-add_change-clause-kept c = λ rows.
    kept_rows c.args.self.now c.add_change.new.self rows
    (kept_twice c.args.self.now c.changes.self c.add_change.new.self c.changes.invariant.kept c.add_change.ensures.kept)

pub returns-clause-kept : goal.returns-clause-kept
returns-clause-kept c = λ rows. kept_rows c.args.self.now c.changes.self rows c.changes.invariant.kept

pub returns-clause-added : goal.returns-clause-added
returns-clause-added c = λ rows indexes.
    after_changes c.changes.self rows c.args.changes.now (kept_rows c.args.self.now c.changes.self rows c.changes.invariant.kept indexes)
    (λ k d below. c.changes.invariant.listed k d (omega arith))
