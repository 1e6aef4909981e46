use Rattle.sn_device.proofs.KeptRuns.{draft_kept_by_sync}
use Rattle.sn_device.proofs.laws.draft_kept_by_sync.Goals as goal

pub returns : goal.returns
returns c = draft_kept_by_sync
