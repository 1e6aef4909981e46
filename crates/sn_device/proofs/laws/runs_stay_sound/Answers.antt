use Rattle.sn_device.proofs.SoundRuns.{runs_stay_sound}
use Rattle.sn_device.proofs.laws.runs_stay_sound.Goals as goal

pub returns : goal.returns
returns c = runs_stay_sound
