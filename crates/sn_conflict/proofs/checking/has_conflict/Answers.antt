use Rattle.std.proofs.Common.{arith, ◌≡◌, ◌∙◌, ap, sym, rules}
use Rattle.std.specs.Prelude.{IsTrue, ◌↔◌}
use Rattle.sn_conflict.proofs.ListLemmas.{named_here, named_nowhere, none_beyond}
use Rattle.sn_conflict.proofs.MeetLemmas.{not_holds}
use Rattle.sn_sync.specs.Versions.{item_of}
use Rattle.sn_sync.specs.declared.answer.Conflict.{Conflict}
use Rattle.sn_sync.specs.declared.item.Item.{Item}
use Rattle.sn_conflict.proofs.checking.has_conflict.Goals as goal

pub returns-then-eq : goal.returns-then-eq
returns-then-eq c =
    let test : IsTrue c.eq.result ↔ (c.item_of.result.now.uuid ≡ c.args.uuid) = search rules in
    let same = sym (ap (λ (i : Item). i.uuid) c.item_of.ensures) ∙ test.0 c.if-eq.true in
    named_here (λ (x : Conflict). (item_of x).uuid) c.args.conflicts.now c.args.uuid c.loop-conflict.conflict-index c.conflict-item.result (omega arith)
    c.conflict-item.is same

pub loop-conflict-preserved : goal.loop-conflict-preserved
loop-conflict-preserved c =
    let test : IsTrue c.eq.result ↔ (c.item_of.result.now.uuid ≡ c.args.uuid) = search rules in
    let differs = not_holds c.eq.result test c.if-eq.false in
    none_beyond (λ (x : Conflict). (item_of x).uuid ≡ c.args.uuid) c.args.conflicts.now c.loop-conflict.conflict-index c.conflict-item.result
    c.loop-conflict.invariant (omega arith) c.conflict-item.is (λ same. differs (ap (λ (i : Item). i.uuid) c.item_of.ensures ∙ same))

pub returns : goal.returns
returns c =
    named_nowhere (λ (x : Conflict). (item_of x).uuid) c.args.conflicts.now c.args.uuid c.loop-conflict.conflict-index (omega arith) c.loop-conflict.invariant
