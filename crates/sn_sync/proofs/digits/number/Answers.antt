use Rattle.std.proofs.Common.{rules, arith, ◌≤◌, get_or}
use Rattle.std.proofs.lemmas.Bool.Decides.{nat_tests}
use Rattle.sn_sync.specs.Stamps.{padded}
use Rattle.sn_sync.proofs.Padded.{no_number, padded_more, room, small_more}
use Rattle.sn_sync.proofs.digits.number.Goals as goal

pub loop-digit-init : goal.loop-digit-init
unfolding padded
loop-digit-init c = search rules

pub returns-then-not-is_ascii_digit-clause-none : goal.returns-then-not-is_ascii_digit-clause-none
returns-then-not-is_ascii_digit-clause-none c = no_number c.args.digits.now c.loop-digit.digit-index c.loop-digit-test.true (λ low high. grind (arith, nat_tests, c.is_ascii_digit.ensures.value))

pub overflow_mul-number : goal.overflow_mul-number
overflow_mul-number c = omega (arith, room c.loop-digit.digit-index c.loop-digit.number)

pub overflow_add-number : goal.overflow_add-number
overflow_add-number c =
    let digit : get_or c.args.digits.now c.loop-digit.digit-index 0 ≤ 57 = grind (arith, nat_tests, c.is_ascii_digit.ensures.value) in
    omega (arith, room c.loop-digit.digit-index c.loop-digit.number)

pub loop-digit-preserved : goal.loop-digit-preserved
loop-digit-preserved c =
    let digit : (48 ≤ get_or c.args.digits.now c.loop-digit.digit-index 0) × (get_or c.args.digits.now c.loop-digit.digit-index 0 ≤ 57) =
    grind (arith, nat_tests, c.is_ascii_digit.ensures.value) in
    record {
      small = small_more _ _ _ c.loop-digit.invariant.small (omega arith);
      spelled = padded_more _ _ _ _ c.loop-digit-test.true (omega arith) (omega arith) c.loop-digit.invariant.spelled;
    }
