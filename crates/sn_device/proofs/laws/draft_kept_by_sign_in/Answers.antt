use Rattle.sn_device.proofs.KeptRuns.{draft_kept_by_sign_in}
use Rattle.sn_device.proofs.laws.draft_kept_by_sign_in.Goals as goal

pub returns : goal.returns
returns c = draft_kept_by_sign_in
