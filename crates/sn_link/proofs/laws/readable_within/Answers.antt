use Rattle.sn_link.proofs.Readable as proof
use Rattle.sn_link.proofs.laws.readable_within.Goals as goal

pub returns : goal.returns
returns c = proof.readable_within
