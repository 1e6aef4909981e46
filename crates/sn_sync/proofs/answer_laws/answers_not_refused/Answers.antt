use Rattle.sn_sync.proofs.NoRefusal.{answers_not_refused}
use Rattle.sn_sync.proofs.answer_laws.answers_not_refused.Goals as goal

pub returns : goal.returns
returns c = answers_not_refused
