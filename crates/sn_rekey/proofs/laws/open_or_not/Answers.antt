use Rattle.sn_rekey.proofs.RekeyLemmas.{open_or_not}
use Rattle.sn_rekey.proofs.laws.open_or_not.Goals as goal

pub returns : goal.returns
returns c = open_or_not
