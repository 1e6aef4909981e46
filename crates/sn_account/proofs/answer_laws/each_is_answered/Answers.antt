use Rattle.sn_account.proofs.TotalAnswers.{each_is_answered}
use Rattle.sn_account.proofs.answer_laws.each_is_answered.Goals as goal

pub returns : goal.returns
returns c = each_is_answered
