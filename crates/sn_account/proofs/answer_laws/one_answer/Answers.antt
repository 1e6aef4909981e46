use Rattle.sn_account.proofs.UniqueAnswers.{one_answer}
use Rattle.sn_account.proofs.answer_laws.one_answer.Goals as goal

pub returns : goal.returns
returns c = one_answer
