use Rattle.sn_readable.proofs.Made as proof
use Rattle.sn_readable.proofs.laws.made_are_readable.Goals as goal

pub returns : goal.returns
returns c = proof.made_are_readable
