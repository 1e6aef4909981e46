use Rattle.sn_device.proofs.RunSteps.{runs_by_steps}
use Rattle.sn_device.proofs.laws.runs_by_steps.Goals as goal

pub returns : goal.returns
returns c = runs_by_steps
