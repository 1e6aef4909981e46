use Rattle.std.proofs.Common.{arith, inr, refl}
use Rattle.sn_conflict.specs.Checks.{IsSaved}
use Rattle.sn_conflict.proofs.ListLemmas.{all_right, first_wrong, right_beyond}
use Rattle.sn_conflict.proofs.checking.check_saved.Goals as goal

pub returns-then-not-branch-clause-err : goal.returns-then-not-branch-clause-err
returns-then-not-branch-clause-err c =
    inr (
      c.loop-index.index,
      refl,
      first_wrong (IsSaved c.args.sent.now) c.args.saved.now c.loop-index.index c.index-saved-index.result _ c.in_ok-is_saved.field-0 c.in_ok-is_saved.ensures
          (grind arith) c.if-not-branch.true (omega arith) c.index-saved-index.is c.loop-index.invariant,
    )

pub loop-index-preserved : goal.loop-index-preserved
loop-index-preserved c =
    right_beyond (IsSaved c.args.sent.now) c.args.saved.now c.loop-index.index c.index-saved-index.result _ c.in_ok-is_saved.field-0 c.in_ok-is_saved.ensures
    (grind arith) c.if-not-branch.false (omega arith) c.index-saved-index.is c.loop-index.invariant

pub returns-clause-ok : goal.returns-clause-ok
returns-clause-ok c = all_right (IsSaved c.args.sent.now) c.args.saved.now c.loop-index.index (omega arith) c.loop-index.invariant
