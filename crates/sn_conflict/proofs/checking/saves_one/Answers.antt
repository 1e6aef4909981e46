use Rattle.std.proofs.Common.{arith}
use Rattle.sn_conflict.specs.Checks.{Saves}
use Rattle.sn_conflict.proofs.ListLemmas.{found_here, found_nowhere, none_beyond}
use Rattle.sn_conflict.proofs.MeetLemmas.{not_holds}
use Rattle.sn_sync.specs.declared.item.Item.{Item}
use Rattle.sn_conflict.proofs.checking.saves_one.Goals as goal

pub returns-then-saves : goal.returns-then-saves
returns-then-saves c =
    found_here (λ (x : Item). Saves x c.args.item.now) c.args.sent.now c.loop-posted.posted-index c.posted-item.result (omega arith) c.posted-item.is
    (c.saves.ensures.0 c.if-saves.true)

pub loop-posted-preserved : goal.loop-posted-preserved
loop-posted-preserved c =
    none_beyond (λ (x : Item). Saves x c.args.item.now) c.args.sent.now c.loop-posted.posted-index c.posted-item.result c.loop-posted.invariant (omega arith)
    c.posted-item.is (not_holds c.saves.result c.saves.ensures c.if-saves.false)

pub returns : goal.returns
returns c =
    found_nowhere (λ (x : Item). Saves x c.args.item.now) c.args.sent.now c.loop-posted.posted-index (omega arith) c.loop-posted.invariant
