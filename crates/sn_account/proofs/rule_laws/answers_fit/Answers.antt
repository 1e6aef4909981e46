use Rattle.sn_account.proofs.RuleFits.{answers_fit}
use Rattle.sn_account.proofs.rule_laws.answers_fit.Goals as goal

pub returns : goal.returns
returns c = answers_fit
