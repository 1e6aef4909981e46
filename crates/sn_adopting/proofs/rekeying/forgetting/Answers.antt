use Rattle.std.proofs.lemmas.Result.{IfOk-weaker}
use Rattle.sn_adopting.proofs.RekeyLemmas.{forgets_by, forgotten_owned}
use Rattle.sn_adopting.proofs.rekeying.forgetting.Goals as goal

pub returns-clause-forgets : goal.returns-clause-forgets
returns-clause-forgets c = IfOk-weaker c.one_change.result _ _ (λ changes are. forgets_by changes.items are) c.one_change.ensures

pub returns-clause-owned : goal.returns-clause-owned
returns-clause-owned c = IfOk-weaker c.one_change.result _ _ (λ changes are. forgotten_owned changes.items are) c.one_change.ensures
