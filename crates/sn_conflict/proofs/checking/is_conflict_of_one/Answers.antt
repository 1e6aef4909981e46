use Rattle.std.proofs.Common.{arith}
use Rattle.sn_conflict.specs.Checks.{IsConflictOf}
use Rattle.sn_conflict.proofs.ListLemmas.{found_here, found_nowhere, none_beyond}
use Rattle.sn_conflict.proofs.MeetLemmas.{not_holds}
use Rattle.sn_sync.specs.declared.item.Item.{Item}
use Rattle.sn_conflict.proofs.checking.is_conflict_of_one.Goals as goal

pub returns-then-is_conflict_of : goal.returns-then-is_conflict_of
returns-then-is_conflict_of c =
    found_here (λ (x : Item). IsConflictOf x c.args.conflict.now) c.args.sent.now c.loop-posted.posted-index c.posted-item.result (omega arith) c.posted-item.is
    (c.is_conflict_of.ensures.0 c.if-is_conflict_of.true)

pub loop-posted-preserved : goal.loop-posted-preserved
loop-posted-preserved c =
    none_beyond (λ (x : Item). IsConflictOf x c.args.conflict.now) c.args.sent.now c.loop-posted.posted-index c.posted-item.result c.loop-posted.invariant
    (omega arith) c.posted-item.is (not_holds c.is_conflict_of.result c.is_conflict_of.ensures c.if-is_conflict_of.false)

pub returns : goal.returns
returns c =
    found_nowhere (λ (x : Item). IsConflictOf x c.args.conflict.now) c.args.sent.now c.loop-posted.posted-index (omega arith) c.loop-posted.invariant
