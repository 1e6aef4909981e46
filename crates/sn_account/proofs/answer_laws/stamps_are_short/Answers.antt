use Rattle.sn_account.proofs.AnswerTexts.{length-stamp}
use Rattle.sn_account.proofs.answer_laws.stamps_are_short.Goals as goal

pub returns : goal.returns
returns c = length-stamp
