use Rattle.sn_rekey.proofs.CarryLemmas.{both_carry, enc_carries_not}
use Rattle.sn_sets.specs.Sets.{sealed_of}
use Rattle.sn_rekey.proofs.carrying.carry.Goals as goal

pub returns-then-not-branch : goal.returns-then-not-branch
returns-then-not-branch c =
    enc_carries_not (sealed_of c.args.strings.now) c.args.set.now.params c.in_ok-carries.field-0 (rw c.as_str.ensures at c.in_ok-carries.ensures) c.if-not-branch.true

pub returns : goal.returns
returns c =
    both_carry (sealed_of c.args.strings.now) c.args.set.now.params c.in_ok-carries.field-0 c.carries-2.result
    (rw c.as_str.ensures at c.in_ok-carries.ensures) c.if-not-branch.false (rw c.as_str-2.ensures at c.carries-2.ensures)
