use Rattle.sn_conflict.proofs.MeetLemmas.{posted_none, posted_some}
use Rattle.sn_conflict.proofs.meeting.was_posted.Goals as goal

pub returns-in-Some : goal.returns-in-Some
returns-in-Some c =
    posted_some c.args.sets.now c.args.local.now c.args.server.now c.in-Some.posted c.has_content.result c.in-Some.is c.has_content.ensures

pub returns-in-None : goal.returns-in-None
returns-in-None c = posted_none c.args.sets.now c.args.local.now c.args.server.now c.in-None.is
