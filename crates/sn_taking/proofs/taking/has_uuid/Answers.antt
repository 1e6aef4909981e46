use Rattle.std.proofs.Common.{arith, ◌≡◌, rules}
use Rattle.std.specs.Prelude.{IsTrue, ◌↔◌}
use Rattle.sn_conflict.proofs.Facts.{named_here, named_nowhere, none_beyond, not_holds}
use Rattle.sn_sync.specs.declared.item.Item.{Item}
use Rattle.sn_taking.proofs.taking.has_uuid.Goals as goal

pub returns-then-eq : goal.returns-then-eq
returns-then-eq c =
    let test : IsTrue c.eq.result ↔ (c.item-item.result.uuid ≡ c.args.uuid) = search rules in
    named_here (λ (x : Item). x.uuid) c.args.items.now c.args.uuid c.items.item-index c.item-item.result (omega arith) c.item-item.is (test.0 c.if-eq.true)

pub items-preserved : goal.items-preserved
items-preserved c =
    let test : IsTrue c.eq.result ↔ (c.item-item.result.uuid ≡ c.args.uuid) = search rules in
    none_beyond (λ (x : Item). x.uuid ≡ c.args.uuid) c.args.items.now c.items.item-index c.item-item.result c.items.invariant (omega arith) c.item-item.is
    (not_holds c.eq.result test c.if-eq.false)

pub returns : goal.returns
returns c = named_nowhere (λ (x : Item). x.uuid) c.args.items.now c.args.uuid c.items.item-index (omega arith) c.items.invariant
