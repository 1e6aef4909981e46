use Rattle.sn_laws.proofs.SetLemmas.{carries_sets}
use Rattle.sn_laws.proofs.state_laws.carries_sets.Goals as goal

pub returns : goal.returns
returns c = carries_sets
