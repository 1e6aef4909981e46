use Rattle.sn_laws.specs.Lookups.{empty}
use Rattle.sn_laws.proofs.StampLemmas.{rises}
use Rattle.sn_laws.proofs.laws.stamps_rise.Goals as goal

pub returns : goal.returns
returns c = rises empty
