use Rattle.sn_device.proofs.KeptRuns.{draft_kept_by_passwd}
use Rattle.sn_device.proofs.laws.draft_kept_by_passwd.Goals as goal

pub returns : goal.returns
returns c = draft_kept_by_passwd
