use Rattle.sn_device.proofs.AdoptDrafts.{draft_adopted}
use Rattle.sn_device.proofs.laws.draft_adopted.Goals as goal

pub returns : goal.returns
returns c = draft_adopted
