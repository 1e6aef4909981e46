use Rattle.sn_rekey.proofs.RekeyLemmas.{closed_stays}
use Rattle.sn_rekey.proofs.laws.closed_stays.Goals as goal

pub returns : goal.returns
returns c = closed_stays
