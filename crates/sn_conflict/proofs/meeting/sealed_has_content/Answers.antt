use Rattle.sn_conflict.proofs.MeetLemmas.{sealed_same}
use Rattle.sn_conflict.proofs.meeting.sealed_has_content.Goals as goal

pub returns : goal.returns
returns c =
    sealed_same c.args.sets.now c.args.local.now c.args.strings.now c.args.server.now c.in-Strings.content c.in-Strings.enc c.in_ok-other.other
    c.same_strings.result c.in-Strings.is (c.same.ensures.0 c.if-not-same.false) c.in_ok-other.ensures.0 c.in_ok-other.ensures.1 c.same_strings.ensures
