use Rattle.sn_sync.proofs.OneRefusal.{one_answer_refusal}
use Rattle.sn_sync.proofs.answer_laws.one_answer_refusal.Goals as goal

pub returns : goal.returns
returns c = one_answer_refusal
