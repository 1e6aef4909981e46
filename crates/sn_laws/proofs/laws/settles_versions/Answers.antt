use Rattle.sn_laws.proofs.StandLemmas.{settles}
use Rattle.sn_laws.proofs.laws.settles_versions.Goals as goal

pub returns : goal.returns
returns c = settles
