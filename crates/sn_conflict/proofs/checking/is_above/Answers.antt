use Rattle.sn_conflict.proofs.CheckLemmas.{above_of, above_unstamped}
use Rattle.sn_conflict.proofs.checking.is_above.Goals as goal

pub returns-in-Some : goal.returns-in-Some
returns-in-Some c = above_of c.args.before.now c.args.item.now c.in-Some.stamp c.are_below.result c.in-Some.ensures.some c.are_below.ensures

pub returns-in-None : goal.returns-in-None
returns-in-None c = above_unstamped c.args.before.now c.args.item.now c.in-None.ensures.none
