use Rattle.sn_device.proofs.SoundKinds.{fresh_is_sound}
use Rattle.sn_device.proofs.laws.fresh_is_sound.Goals as goal

pub returns : goal.returns
returns c = fresh_is_sound
