use Rattle.sn_conflict.proofs.OneMeeting.{one_meeting}
use Rattle.sn_conflict.proofs.laws.one_meeting.Goals as goal

pub returns : goal.returns
returns c = one_meeting
