use Rattle.std.proofs.Common.{refl}
use Rattle.sn_tail.proofs.Walks.{all_passed, end_passed, passed_more}
use Rattle.sn_tail.proofs.gates.place_of_end.Goals as goal

pub batches-preserved : goal.batches-preserved
batches-preserved c =
    passed_more c.args.bytes.now c.args.place c.batches.gate _ c.batches.rest.now c.in-Some.payload.now c.in-Some.after.now c.batches.invariant c.in-Some.ensures.some.0 c.in-Some.ensures.some.1 refl

pub returns-clause-end : goal.returns-clause-end
returns-clause-end c = λ owner before later store at. all_passed owner c.args.bytes.now c.args.place c.batches.gate c.batches.rest.now before later c.batches.invariant c.in_default.ensures.none store at

pub returns-clause-read : goal.returns-clause-read
returns-clause-read c = end_passed c.args.bytes.now c.args.place c.batches.gate c.batches.rest.now c.batches.invariant c.in_default.ensures.none
