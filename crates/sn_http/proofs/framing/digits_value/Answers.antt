use Rattle.std.proofs.Common.{◌≡◌, ℕ, ◌+◌, ◌*◌, ◌^◌, ◌∙◌, ap, add-one, arith}
use Rattle.std.proofs.Math.Nat.{pow-suc}
use Rattle.sn_http.proofs.Digits.{digit_in, digit_more}
use Rattle.sn_http.proofs.framing.digits_value.Goals as goal

pub loop-digit-preserved : goal.loop-digit-preserved
loop-digit-preserved c =
    let range = digit_in c.args.digits.now c.loop-digit.digit-index c.requires.digits c.loop-digit-test.true in
    let power : 10 ^ (c.loop-digit.digit-index + 1) ≡ 10 ^ c.loop-digit.digit-index * 10 = ap (λ (n : ℕ). 10 ^ n) (add-one c.loop-digit.digit-index) ∙ pow-suc 10 c.loop-digit.digit-index in
    record {
      value = digit_more c.args.digits.now c.loop-digit.digit-index c.loop-digit.number c.requires.digits c.loop-digit-test.true c.loop-digit.invariant.value;
      small = omega (arith, c.loop-digit.invariant.small, power, range.0, range.1);
    }
