use Rattle.std.proofs.Common.{arith}
use Rattle.sn_http.proofs.Ends.{none_ends_on}
use Rattle.sn_http.proofs.trigger.may_end_past.Goals as goal

pub ends-init : goal.ends-init
ends-init c = record {
  fits = omega arith;
  later = omega arith;
  none = λ h rest x le. le;
}

pub ends-preserved : goal.ends-preserved
ends-preserved c = record {
  fits = omega (arith, c.ends-test.true);
  later = omega (arith, c.ends.invariant.later);
  none = none_ends_on c.args.bytes.now c.args.seen c.ends.at c.ends.invariant.none (c.ends_blank_with.ensures c.if-ends_blank_with.false);
}
