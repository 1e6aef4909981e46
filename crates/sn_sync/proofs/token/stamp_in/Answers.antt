use Rattle.std.proofs.Common.{rules, arith, Fits, w64}
use Rattle.sn_sync.proofs.TokenFacts.{above_last}
use Rattle.sn_sync.proofs.token.stamp_in.Goals as goal

pub returns-clause-none : goal.returns-clause-none
returns-clause-none c =
    let fits : Fits w64 c.in_ok-stamp.stamp = search rules in
    rw c.then_some.ensures (above_last c.args.bytes.now c.in_ok-strip_prefix.field-0.now c.in_ok-stamp.stamp (omega arith) c.in_ok-stamp.ensures.some c.in_ok-strip_prefix.ensures.cases.1)
