use Rattle.sn_conflict.proofs.CheckLemmas.{new_stamped, new_unstamped}
use Rattle.sn_conflict.proofs.checking.is_new.Goals as goal

pub returns-in-Some : goal.returns-in-Some
returns-in-Some c = new_stamped c.args.item.now _ c.in-Some.ensures.some

pub returns-in-None : goal.returns-in-None
returns-in-None c = new_unstamped c.args.item.now c.in-None.ensures.none
