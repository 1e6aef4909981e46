use Rattle.sn_device.proofs.SoundSteps.{steps_stay_sound}
use Rattle.sn_device.proofs.laws.steps_stay_sound.Goals as goal

pub returns : goal.returns
returns c = steps_stay_sound
