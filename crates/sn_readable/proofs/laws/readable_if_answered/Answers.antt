use Rattle.sn_readable.proofs.Answered as proof
use Rattle.sn_readable.proofs.laws.readable_if_answered.Goals as goal

pub returns : goal.returns
returns c = proof.readable_if_answered
