use Rattle.sn_sync.proofs.Cases.{IfNone-weaker, IfSome-weaker}
use Rattle.sn_sync.proofs.Decimals.{IsPlain-decimal, decimal-digits, plain-decimal}
use Rattle.sn_sync.proofs.digits.decimal.Goals as goal

pub returns-then-is_plain-clause-some : goal.returns-then-is_plain-clause-some
returns-then-is_plain-clause-some c = IfSome-weaker c.number.result _ _
    (λ n h. plain-decimal c.args.digits.now n (c.is_plain.ensures.0 c.if-is_plain.true) h.0 h.1) c.number.ensures.some

pub returns-then-is_plain-clause-none : goal.returns-then-is_plain-clause-none
returns-then-is_plain-clause-none c = IfNone-weaker c.number.result _ _
    (λ none n h e. none n (decimal-digits c.args.digits.now n h e)) c.number.ensures.none

pub returns-else-is_plain-clause-none : goal.returns-else-is_plain-clause-none
returns-else-is_plain-clause-none c = λ n h e.
    let plain = c.is_plain.ensures.1 (IsPlain-decimal c.args.digits.now n h e) in
    let other = c.if-is_plain.false in
    cc
