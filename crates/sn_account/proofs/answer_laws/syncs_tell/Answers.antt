use Rattle.sn_account.proofs.TellsLemmas.{syncs_tell}
use Rattle.sn_account.proofs.answer_laws.syncs_tell.Goals as goal

pub returns : goal.returns
returns c = syncs_tell
