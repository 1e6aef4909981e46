use Rattle.sn_laws.proofs.KeptLemmas.{keeps}
use Rattle.sn_laws.proofs.laws.keeps_versions.Goals as goal

pub returns : goal.returns
returns c = keeps
