use Rattle.sn_sync.proofs.TokenFacts.{one_token}
use Rattle.sn_sync.proofs.laws.one_token.Goals as goal

pub returns : goal.returns
returns c = one_token
