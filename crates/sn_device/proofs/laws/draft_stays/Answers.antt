use Rattle.sn_device.proofs.Drafts.{draft_stays}
use Rattle.sn_device.proofs.laws.draft_stays.Goals as goal

pub returns : goal.returns
returns c = draft_stays
