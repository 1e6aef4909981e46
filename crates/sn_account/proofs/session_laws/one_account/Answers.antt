use Rattle.sn_account.proofs.SessionTokens.{one_account}
use Rattle.sn_account.proofs.session_laws.one_account.Goals as goal

pub returns : goal.returns
returns c = one_account
