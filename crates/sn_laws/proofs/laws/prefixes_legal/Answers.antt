use Rattle.sn_laws.specs.Lookups.{empty}
use Rattle.sn_laws.proofs.RunLemmas.{legal_before}
use Rattle.sn_laws.proofs.laws.prefixes_legal.Goals as goal

pub returns : goal.returns
returns c = legal_before empty
