use Rattle.sn_device.proofs.SoundKinds.{tells_soundness}
use Rattle.sn_device.proofs.laws.tells_soundness.Goals as goal

pub returns : goal.returns
returns c = tells_soundness
