use Rattle.sn_device.proofs.Kept.{draft_kept}
use Rattle.sn_device.proofs.laws.draft_kept.Goals as goal

pub returns : goal.returns
returns c = draft_kept
