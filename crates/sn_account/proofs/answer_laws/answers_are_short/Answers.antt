use Rattle.sn_account.proofs.AnswerSizes.{answers_are_short}
use Rattle.sn_account.proofs.answer_laws.answers_are_short.Goals as goal

pub returns : goal.returns
returns c = answers_are_short
