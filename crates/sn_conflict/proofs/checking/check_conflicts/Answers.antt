use Rattle.std.proofs.Common.{arith, inr, refl}
use Rattle.sn_conflict.specs.Checks.{IsConflict}
use Rattle.sn_conflict.proofs.ListLemmas.{all_right, first_wrong, right_beyond}
use Rattle.sn_conflict.proofs.checking.check_conflicts.Goals as goal

pub returns-then-not-branch-clause-err : goal.returns-then-not-branch-clause-err
returns-then-not-branch-clause-err c =
    inr (
      c.loop-index.index,
      refl,
      first_wrong (IsConflict c.args.sent.now c.args.saved.now) c.args.conflicts.now c.loop-index.index c.index-conflicts-index.result _ c.in_ok-is_conflict.field-0 c.in_ok-is_conflict.ensures
          (grind arith) c.if-not-branch.true (omega arith) c.index-conflicts-index.is c.loop-index.invariant,
    )

pub loop-index-preserved : goal.loop-index-preserved
loop-index-preserved c =
    right_beyond (IsConflict c.args.sent.now c.args.saved.now) c.args.conflicts.now c.loop-index.index c.index-conflicts-index.result _ c.in_ok-is_conflict.field-0 c.in_ok-is_conflict.ensures
    (grind arith) c.if-not-branch.false (omega arith) c.index-conflicts-index.is c.loop-index.invariant

pub returns-clause-ok : goal.returns-clause-ok
returns-clause-ok c = all_right (IsConflict c.args.sent.now c.args.saved.now) c.args.conflicts.now c.loop-index.index (omega arith) c.loop-index.invariant
