use Rattle.sn_string.proofs.Facts.{IfNone-given}
use Rattle.sn_sync.proofs.members.kind_of.Goals as goal

pub returns-in_err-kind-clause-none : goal.returns-in_err-kind-clause-none
returns-in_err-kind-clause-none c = IfNone-given c.from_residual.result _ (λ kind h. c.in_err-kind.ensures.none kind h.0)
