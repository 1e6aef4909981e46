use Rattle.std.proofs.Common.{leb}
use Rattle.std.proofs.lemmas.Bool.{le-leb, leb-true}
use Rattle.sn_conflict.proofs.MeetLemmas.{known_decided, known_unstamped}
use Rattle.sn_conflict.proofs.meeting.is_known.Goals as goal

pub returns-in-Some-stamp_of : goal.returns-in-Some-stamp_of
returns-in-Some-stamp_of c =
    let stamp = c.in-Some-stamp_of.stamp in
    let base = c.in-Some.base in
    known_decided c.args.local.now c.args.server.now c.args.saved base stamp (leb stamp base) c.if-saved.false c.in-Some.is c.in-Some-stamp_of.ensures.some
    (leb-true stamp base, le-leb stamp base)

pub returns-in-None : goal.returns-in-None
returns-in-None c = known_unstamped c.args.local.now c.args.server.now c.args.saved c.in-None.ensures.none
