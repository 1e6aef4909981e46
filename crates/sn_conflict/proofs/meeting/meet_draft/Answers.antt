use Rattle.std.proofs.Common.{inr, string_bytes, subst}
use Rattle.sn_conflict.proofs.CheckLemmas.{found_none, found_some}
use Rattle.sn_conflict.proofs.MeetLemmas.{meets_as_other, meets_other}
use Rattle.sn_items.specs.declared.sealed.Sealed.{Sealed}
use Rattle.sn_rows.specs.declared.body.RowBody.TheVariants as row
use Rattle.sn_sets.specs.Sets.{OpensHeld, OpensNowhere}
use Rattle.sn_conflict.proofs.meeting.meet_draft.Goals as goal

pub returns-in-Some : goal.returns-in-Some
returns-in-Some c =
    let differs = meets_other c.args.sets.now c.args.local.now c.args.server.now c.args.saved c.args.latest.now c.in_ok-has_content.field-0 c.in_ok-was_posted.field-0
    c.requires c.in_ok-has_content.ensures c.if-branch.false c.in_ok-was_posted.ensures c.if-branch-2.false in
    let opens = found_some (λ text. OpensHeld c.args.sets.now c.args.local.now.uuid c.in_ok-sealed.sealed (string_bytes text)) c.in_ok-open.field-0
    c.in-Some.field-0 c.in-Some.is c.in_ok-open.ensures.some in
    record {
      strings = c.in-Sealed.strings;
      other = meets_as_other c.args.sets.now c.args.local.now c.args.server.now c.args.saved c.args.latest.now (row.Sealed c.in-Sealed.strings) c.in-Sealed.is differs;
      text = string_bytes c.in-Some.field-0;
      opens = subst (λ (s : Sealed). OpensHeld c.args.sets.now c.args.local.now.uuid s (string_bytes c.in-Some.field-0)) c.in_ok-sealed.ensures opens;
    }

pub returns : goal.returns
returns c =
    let differs = meets_other c.args.sets.now c.args.local.now c.args.server.now c.args.saved c.args.latest.now c.in_ok-has_content.field-0 c.in_ok-was_posted.field-0
    c.requires c.in_ok-has_content.ensures c.if-branch.false c.in_ok-was_posted.ensures c.if-branch-2.false in
    let closed = found_none (OpensNowhere c.args.sets.now c.args.local.now.uuid c.in_ok-sealed.sealed) c.in_ok-open.field-0 c.in-None.is c.in_ok-open.ensures.none in
    inr (record {
      strings = c.in-Sealed.strings;
      other = meets_as_other c.args.sets.now c.args.local.now c.args.server.now c.args.saved c.args.latest.now (row.Sealed c.in-Sealed.strings) c.in-Sealed.is differs;
      closed = subst (λ (s : Sealed). OpensNowhere c.args.sets.now c.args.local.now.uuid s) c.in_ok-sealed.ensures closed;
    })
