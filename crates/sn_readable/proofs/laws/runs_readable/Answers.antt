use Rattle.sn_readable.proofs.Calls as proof
use Rattle.sn_readable.proofs.laws.runs_readable.Goals as goal

pub returns : goal.returns
returns c = proof.runs_readable c.readable_within.ensures c.steps_fit.ensures
