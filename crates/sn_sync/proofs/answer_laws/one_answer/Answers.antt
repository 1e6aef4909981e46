use Rattle.sn_sync.proofs.OneAnswer.{one_answer}
use Rattle.sn_sync.proofs.OneStamp.{one_stamp}
use Rattle.sn_sync.proofs.answer_laws.one_answer.Goals as goal

pub returns : goal.returns
returns c = one_answer one_stamp
