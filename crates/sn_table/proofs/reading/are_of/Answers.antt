use Rattle.std.proofs.Common.{refl, arith}
use Rattle.sn_table.specs.Batches.{IsOf}
use Rattle.sn_table.proofs.ListLemmas.{all_more, all_read}
use Rattle.sn_table.proofs.reading.are_of.Goals as goal

pub changes-preserved : goal.changes-preserved
changes-preserved c = all_more (IsOf c.args.owner) c.args.changes.now c.changes.change-index c.change-item.result _ (omega arith) c.change-item.is c.changes.invariant (c.is_of.ensures.0 c.if-not-is_of.false)

pub returns : goal.returns
returns c = (λ t. all_read (IsOf c.args.owner) c.args.changes.now c.changes.change-index (omega arith) c.changes.invariant, λ all. refl)
