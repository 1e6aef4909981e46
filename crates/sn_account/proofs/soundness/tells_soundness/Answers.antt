use Rattle.sn_account.proofs.ToldKinds.{tells_soundness}
use Rattle.sn_account.proofs.soundness.tells_soundness.Goals as goal

pub returns : goal.returns
returns c = tells_soundness
