use Rattle.sn_tail.proofs.Walks.{answered}
use Rattle.sn_tail.proofs.tails.batches_behind.Goals as goal

pub returns-clause-behind : goal.returns-clause-behind
returns-clause-behind c = λ before later store at. answered c.args.owner c.args.bytes.now c.args.place before later c.read_behind.result store at c.read_behind.ensures.read c.read_behind.ensures.refused
