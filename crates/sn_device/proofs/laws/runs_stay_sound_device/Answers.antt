use Rattle.sn_device.proofs.SoundRuns.{runs_stay_sound_device}
use Rattle.sn_device.proofs.laws.runs_stay_sound_device.Goals as goal

pub returns : goal.returns
returns c = runs_stay_sound_device
