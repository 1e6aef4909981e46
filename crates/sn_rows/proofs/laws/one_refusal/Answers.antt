use Rattle.sn_rows.proofs.EqualColumns.{one_refusal}
use Rattle.sn_rows.proofs.laws.one_refusal.Goals as goal

pub returns : goal.returns
returns c = one_refusal
