use Rattle.sn_shown.proofs.LawLemmas.{regular}
use Rattle.sn_shown.proofs.laws.states_regular.Goals as goal

pub returns : goal.returns
returns c = regular
