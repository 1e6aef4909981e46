use Rattle.sn_device.proofs.DeviceSteps.{steps_stay_sound_device}
use Rattle.sn_device.proofs.laws.steps_stay_sound_device.Goals as goal

pub returns : goal.returns
returns c = steps_stay_sound_device
