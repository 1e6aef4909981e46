use Rattle.sn_rekey.proofs.RekeyLemmas.{version_stays}
use Rattle.sn_rekey.proofs.laws.version_stays.Goals as goal

pub returns : goal.returns
returns c = version_stays
