use Rattle.sn_account.proofs.UnescapedTexts.{sealed_are_unescaped}
use Rattle.sn_account.proofs.answer_laws.sealed_are_unescaped.Goals as goal

pub returns : goal.returns
returns c = sealed_are_unescaped
