use Rattle.sn_string.proofs.Unique.{one_refusal}
use Rattle.sn_string.proofs.laws.one_refusal.Goals as goal

pub returns : goal.returns
returns c = one_refusal
