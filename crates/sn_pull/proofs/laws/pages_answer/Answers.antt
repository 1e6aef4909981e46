use Rattle.sn_pull.proofs.PageLemmas.{pages_answer}
use Rattle.sn_pull.proofs.laws.pages_answer.Goals as goal

pub returns : goal.returns
returns c = pages_answer c.one_account.ensures c.one_token.ensures
