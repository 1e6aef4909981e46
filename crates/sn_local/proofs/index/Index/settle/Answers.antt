use Rattle.sn_local.proofs.index.Index.settle.Goals as goal

pub numbers-preserved : goal.numbers-preserved
numbers-preserved c = λ indexes. c.settle_one.ensures (c.numbers.invariant indexes)
