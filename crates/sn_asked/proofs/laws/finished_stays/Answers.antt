use Rattle.sn_asked.proofs.Resting.{finished_stays}
use Rattle.sn_asked.proofs.laws.finished_stays.Goals as goal

pub returns : goal.returns
returns c = finished_stays c.accounts_apart.ensures c.keeps.ensures
