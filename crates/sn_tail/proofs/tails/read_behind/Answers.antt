use Rattle.std.proofs.Common.{◌+◌, List, length, refl, sym, subst}
use Rattle.sn_rows.specs.declared.change.Change.{Change}
use Rattle.sn_tail.specs.Tails.{AreBefore}
use Rattle.sn_tail.proofs.Walks.{before_more}
use Rattle.sn_tail.proofs.tails.read_behind.Goals as goal

pub batches-preserved : goal.batches-preserved
batches-preserved c =
    let added = c.in_ok-add_batch.ensures.added in
    let next = c.batches.gate + (5 + length c.in-Some.payload.now) in
    subst (λ (bs : List (List Change)). AreBefore c.args.owner c.args.bytes.now c.args.place bs next c.in-Some.after.now) (sym added.1)
    (before_more c.args.owner c.args.bytes.now c.args.place c.batches.gate next c.batches.batches c.batches.rest.now c.in-Some.payload.now c.in-Some.after.now added.0 c.batches.invariant c.in-Some.ensures.some.0 c.in-Some.ensures.some.1 added.2 added.3 refl)
