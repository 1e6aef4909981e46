use Rattle.sn_string.proofs.Cases.{IfNone-given}
use Rattle.sn_string.proofs.NamingFacts.{not_six, other_forms}
use Rattle.sn_string.proofs.naming.six_of_uuid.Goals as goal

pub returns-in_err-six-clause-none : goal.returns-in_err-six-clause-none
returns-in_err-six-clause-none c = IfNone-given c.from_residual.result _ (not_six c.args.text.now c.args.uuid c.in_err-six.ensures.none)

pub returns-else-has_forms-clause-none : goal.returns-else-has_forms-clause-none
returns-else-has_forms-clause-none c =
    other_forms c.args.text.now c.args.uuid c.in_ok-six.six c.has_forms.result c.in_ok-six.ensures.some c.has_forms.ensures c.if-has_forms.false
