use Rattle.sn_conflict.proofs.CheckLemmas.{below_decided, below_empty}
use Rattle.sn_conflict.proofs.checking.are_below.Goals as goal

pub returns-in-Some : goal.returns-in-Some
returns-in-Some c = below_decided c.args.before.now c.in-Some.last.now c.args.stamp c.is_below.result c.requires c.in-Some.ensures.value c.is_below.ensures

pub returns-in-None : goal.returns-in-None
returns-in-None c = below_empty c.args.before.now c.args.stamp c.in-None.ensures.value
