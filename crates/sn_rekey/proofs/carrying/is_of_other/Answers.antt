use Rattle.sn_rekey.proofs.CarryLemmas.{other_posted}
use Rattle.sn_rekey.proofs.carrying.is_of_other.Goals as goal

pub returns : goal.returns
returns c =
    other_posted c.args.present.now c.args.local.now c.in_ok-carries_other.field-0 c.in_ok-carries_other-2.field-0 c.carries_other-3.result
    c.in_ok-carries_other.ensures c.if-branch.false c.in_ok-carries_other-2.ensures c.if-branch-2.false c.carries_other-3.ensures
