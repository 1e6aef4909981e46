use Rattle.sn_account.proofs.SessionTokens.{one_account}
use Rattle.sn_account.proofs.SparedRows.{spares_others}
use Rattle.sn_account.proofs.sound_laws.spares_others.Goals as goal

pub returns : goal.returns
returns c = spares_others one_account
