use Rattle.sn_device.proofs.Followed.{draft_kept_by_answer}
use Rattle.sn_device.proofs.laws.draft_kept_by_answer.Goals as goal

pub returns : goal.returns
returns c = draft_kept_by_answer
