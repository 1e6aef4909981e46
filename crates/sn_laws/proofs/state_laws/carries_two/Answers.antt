use Rattle.sn_laws.proofs.SetLemmas.{carries_two}
use Rattle.sn_laws.proofs.state_laws.carries_two.Goals as goal

pub returns : goal.returns
returns c = carries_two
