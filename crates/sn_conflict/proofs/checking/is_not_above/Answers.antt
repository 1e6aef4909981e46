use Rattle.sn_conflict.proofs.CheckLemmas.{most_decided, most_unstamped}
use Rattle.sn_conflict.proofs.checking.is_not_above.Goals as goal

pub returns-in-Some : goal.returns-in-Some
returns-in-Some c = most_decided c.args.item.now c.in-Some.other c.args.stamp c.in-Some.ensures.some

pub returns-in-None : goal.returns-in-None
returns-in-None c = most_unstamped c.args.item.now c.args.stamp c.in-None.ensures.none
