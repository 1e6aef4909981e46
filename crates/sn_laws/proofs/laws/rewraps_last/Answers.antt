use Rattle.sn_laws.proofs.RewrapLemmas.{rewraps_last}
use Rattle.sn_laws.proofs.laws.rewraps_last.Goals as goal

pub returns : goal.returns
returns c = rewraps_last
