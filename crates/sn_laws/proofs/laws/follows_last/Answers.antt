use Rattle.sn_laws.proofs.StandLemmas.{follows}
use Rattle.sn_laws.proofs.laws.follows_last.Goals as goal

pub returns : goal.returns
returns c = follows
