use Rattle.sn_joining.proofs.KeyLemmas.{other_older}
use Rattle.sn_joining.proofs.signing.is_other_older.Goals as goal

pub returns-then-same : goal.returns-then-same
returns-then-same c = other_older c.args.sets.now c.args.set.now c.in-Some.older c.same-then-same.result c.in-Some.is (c.same.ensures.0 c.if-same.true) c.same-then-same.ensures
