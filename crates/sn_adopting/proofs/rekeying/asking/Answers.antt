use Rattle.std.proofs.lemmas.Result.{IfOk-weaker}
use Rattle.sn_adopting.proofs.RekeyLemmas.{asked_owned, asks_for}
use Rattle.sn_adopting.proofs.rekeying.asking.Goals as goal

pub returns-clause-asks : goal.returns-clause-asks
returns-clause-asks c =
    IfOk-weaker c.one_change.result _ _ (λ changes are. asks_for c.in_ok-change.change c.args.set.now changes.items c.in_ok-change.ensures are) c.one_change.ensures

pub returns-clause-owned : goal.returns-clause-owned
returns-clause-owned c =
    IfOk-weaker c.one_change.result _ _ (λ changes are. asked_owned c.in_ok-change.change c.args.set.now changes.items c.in_ok-change.ensures are) c.one_change.ensures
