use Rattle.sn_telling.proofs.ToldLaws.{agains_tell}
use Rattle.sn_telling.proofs.laws.agains_tell.Goals as goal

pub returns : goal.returns
returns c = agains_tell c.said_once.ensures
