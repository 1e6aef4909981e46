use Rattle.std.proofs.Common.{string_bytes}
use Rattle.sn_conflict.proofs.CheckLemmas.{found_none, found_some}
use Rattle.sn_conflict.proofs.MeetLemmas.{alike_first, alike_text}
use Rattle.sn_sets.specs.Sets.{OpensHeld, OpensNowhere}
use Rattle.sn_conflict.proofs.meeting.open_alike.Goals as goal

pub returns-in-Some : goal.returns-in-Some
returns-in-Some c =
    let opens = found_some (λ text. OpensHeld c.args.sets.now c.args.uuid c.args.sealed.now (string_bytes text)) c.in_ok-text.field-0 c.in-Some.text c.in-Some.is
    c.in_ok-text.ensures.some in
    alike_text c.args.sets.now c.args.uuid c.args.sealed.now c.args.other_uuid c.args.other.now (string_bytes c.in-Some.text) c.as_str.result.now
    c.opens_to.result opens c.as_str.ensures.value c.opens_to.ensures

pub returns-in-None : goal.returns-in-None
returns-in-None c =
    alike_first c.args.sets.now c.args.uuid c.args.sealed.now c.args.other_uuid c.args.other.now
    (found_none (OpensNowhere c.args.sets.now c.args.uuid c.args.sealed.now) c.in_ok-text.field-0 c.in-None.is c.in_ok-text.ensures.none)
