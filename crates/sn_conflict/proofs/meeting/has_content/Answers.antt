use Rattle.sn_conflict.proofs.MeetLemmas.{deleted_has, sealed_has}
use Rattle.sn_conflict.proofs.meeting.has_content.Goals as goal

pub returns-in-Deleted : goal.returns-in-Deleted
returns-in-Deleted c =
    deleted_has c.args.sets.now c.args.local.now c.args.version.now c.args.server.now c.is_deletion.result c.in-Deleted.is c.is_deletion.ensures

pub returns-in-Sealed : goal.returns-in-Sealed
returns-in-Sealed c =
    sealed_has c.args.sets.now c.args.local.now c.args.version.now c.in-Sealed.strings c.args.server.now c.sealed_has_content.result c.in-Sealed.is
    c.sealed_has_content.ensures
