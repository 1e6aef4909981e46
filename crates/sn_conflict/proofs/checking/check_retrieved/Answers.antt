use Rattle.std.proofs.Common.{arith, inr, refl, rules}
use Rattle.sn_conflict.specs.Checks.{IsRetrieved}
use Rattle.sn_conflict.proofs.ListLemmas.{all_right, first_wrong, right_beyond, right_front}
use Rattle.sn_conflict.proofs.checking.check_retrieved.Goals as goal

pub is_retrieved-requires : goal.is_retrieved-requires
is_retrieved-requires c =
    let front = right_front IsRetrieved c.args.retrieved.now c.loop-index.index (omega arith) c.loop-index.invariant in
    search (rules, front)

pub returns-then-not-branch-clause-err : goal.returns-then-not-branch-clause-err
returns-then-not-branch-clause-err c =
    inr (
      c.loop-index.index,
      refl,
      first_wrong IsRetrieved c.args.retrieved.now c.loop-index.index c.index-retrieved-index.result _ c.in_ok-is_retrieved.field-0 c.in_ok-is_retrieved.ensures
          (grind arith) c.if-not-branch.true (omega arith) c.index-retrieved-index.is c.loop-index.invariant,
    )

pub loop-index-preserved : goal.loop-index-preserved
loop-index-preserved c =
    right_beyond IsRetrieved c.args.retrieved.now c.loop-index.index c.index-retrieved-index.result _ c.in_ok-is_retrieved.field-0 c.in_ok-is_retrieved.ensures
    (grind arith) c.if-not-branch.false (omega arith) c.index-retrieved-index.is c.loop-index.invariant

pub returns-clause-ok : goal.returns-clause-ok
returns-clause-ok c = all_right IsRetrieved c.args.retrieved.now c.loop-index.index (omega arith) c.loop-index.invariant
