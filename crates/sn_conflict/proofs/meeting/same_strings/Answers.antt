use Rattle.sn_conflict.proofs.MeetLemmas.{not_holds, strings_alike}
use Rattle.sn_sets.specs.Sets.{sealed_of}
use Rattle.sn_conflict.proofs.meeting.same_strings.Goals as goal

pub returns : goal.returns
returns c =
    strings_alike c.args.sets.now c.args.uuid (sealed_of c.args.strings.now) c.args.other_uuid c.args.other.now c.open_alike.result
    (not_holds c.are_equal.result c.are_equal.ensures c.if-are_equal.false) (rw c.in_ok-sealed.ensures at c.open_alike.ensures)
