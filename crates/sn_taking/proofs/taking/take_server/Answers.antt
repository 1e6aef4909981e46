use Rattle.std.proofs.Common.{inl, inr, refl, subst}
use Rattle.std.proofs.lemmas.Result.{IfErr-weaker, IfOk-weaker}
use Rattle.sn_conflict.specs.Meetings.{MeetsAs}
use Rattle.sn_conflict.specs.declared.meeting.Meeting.{Meeting}
use Rattle.sn_conflict.specs.declared.meeting.Meeting.TheVariants as meeting
use Rattle.sn_row_map.specs.RowMaps.{row_in}
use Rattle.sn_sets.proofs.Facts.{later_again}
use Rattle.sn_taking.specs.Taken.{StopsBy, StopsServer, so_far}
use Rattle.sn_device.specs.Taking.{changed, made, with_words}
use Rattle.sn_taking.proofs.TakingLemmas.{err_as, fork_stops, free_at, meets_left, new_stops, stands_at}
use Rattle.sn_taking.proofs.taking.take_server.Goals as goal

pub returns-in_default-clause-ok : goal.returns-in_default-clause-ok
returns-in_default-clause-ok c =
    let free = free_at (row_in c.args.rows.now) c.as_slice-changes.result.now c.args.taken.now.changes c.args.item.now.uuid c.as_slice-changes.ensures
    c.in_default.ensures.none in
    IfOk-weaker c.make_row.result _ _ (λ effect makes. inr (free, makes (row_in c.args.rows.now))) c.make_row.ensures.ok

pub returns-in_default-clause-err : goal.returns-in_default-clause-err
returns-in_default-clause-err c =
    IfErr-weaker c.make_row.result _ _
    (new_stops c.args.sets.now (row_in c.args.rows.now) c.args.taken.now c.args.words.now c.args.item.now c.args.saved c.as_slice-changes.result.now
    c.as_slice-changes.ensures c.in_default.ensures.none)
    c.make_row.ensures.err

pub returns-in-Same-clause-ok : goal.returns-in-Same-clause-ok
returns-in-Same-clause-ok c =
    let has = stands_at (row_in c.args.rows.now) c.as_slice-changes.result.now c.args.taken.now.changes c.args.item.now.uuid c.in-Some.number c.in-Some.local.now
    c.as_slice-changes.ensures c.in-Some.ensures.some in
    inl (
      c.in-Some.number,
      c.in-Some.local.now,
      meeting.Same,
      has,
      subst (λ (how : Meeting). MeetsAs c.args.sets.now c.in-Some.local.now c.args.item.now c.args.saved how) c.in-Same.is c.in_ok-meeting.ensures,
      refl,
    )

pub copy_draft-requires-clause-readable : goal.copy_draft-requires-clause-readable
copy_draft-requires-clause-readable c =
    let meets = subst (λ (how : Meeting). MeetsAs c.args.sets.now c.in-Some.local.now c.args.item.now c.args.saved how) c.in-Fork.is c.in_ok-meeting.ensures in
    (meets.strings, meets.other.meets.drafted, (meets.text, meets.opens))

pub returns-in_err-copy-in-Fork-clause-err : goal.returns-in_err-copy-in-Fork-clause-err
returns-in_err-copy-in-Fork-clause-err c =
    let p = so_far (row_in c.args.rows.now) c.args.taken.now c.args.words.now in
    let has = stands_at (row_in c.args.rows.now) c.as_slice-changes.result.now c.args.taken.now.changes c.args.item.now.uuid c.in-Some.number c.in-Some.local.now
    c.as_slice-changes.ensures c.in-Some.ensures.some in
    let meets = subst (λ (how : Meeting). MeetsAs c.args.sets.now c.in-Some.local.now c.args.item.now c.args.saved how) c.in-Fork.is c.in_ok-meeting.ensures in
    err_as c.from_residual-in_err-copy-in-Fork.result c.in_err-copy-in-Fork.field-0.0 (StopsBy (StopsServer c.args.sets.now p c.args.item.now c.args.saved))
    c.from_residual-in_err-copy-in-Fork.ensures.1
    (fork_stops c.args.sets.now p c.args.item.now c.args.saved (c.in-Some.number, c.in-Some.local.now, has, meets) c.in_err-copy-in-Fork.field-0.0
    c.in_err-copy-in-Fork.ensures.err)

pub returns-in_err-change-in-Fork-clause-words : goal.returns-in_err-change-in-Fork-clause-words
returns-in_err-change-in-Fork-clause-words c =
    later_again c.args.words.now c.copy_draft.new.words c.take_version.new.words c.copy_draft.ensures.words c.take_version.ensures.words

pub returns-in_ok-change-in-Fork-clause-ok : goal.returns-in_ok-change-in-Fork-clause-ok
returns-in_ok-change-in-Fork-clause-ok c =
    let p = so_far (row_in c.args.rows.now) c.args.taken.now c.args.words.now in
    let has = stands_at (row_in c.args.rows.now) c.as_slice-changes.result.now c.args.taken.now.changes c.args.item.now.uuid c.in-Some.number c.in-Some.local.now
    c.as_slice-changes.ensures c.in-Some.ensures.some in
    let meets = subst (λ (how : Meeting). MeetsAs c.args.sets.now c.in-Some.local.now c.args.item.now c.args.saved how) c.in-Fork.is c.in_ok-meeting.ensures in
    let r = with_words (made p c.in_ok-copy-in-Fork.copy) c.copy_draft.new.words in
    inl (
      c.in-Some.number,
      c.in-Some.local.now,
      meeting.Fork,
      has,
      meets,
      (r, c.in_ok-copy-in-Fork.ensures.ok, c.in_ok-change-in-Fork.ensures.ok r refl),
    )

pub returns-in_ok-change-in-Fork-clause-words : goal.returns-in_ok-change-in-Fork-clause-words
returns-in_ok-change-in-Fork-clause-words c =
    later_again c.args.words.now c.copy_draft.new.words c.take_version.new.words c.copy_draft.ensures.words c.take_version.ensures.words

pub returns-in_ok-change-in_default-meeting : goal.returns-in_ok-change-in_default-meeting
returns-in_ok-change-in_default-meeting c =
    let p = so_far (row_in c.args.rows.now) c.args.taken.now c.args.words.now in
    let has = stands_at (row_in c.args.rows.now) c.as_slice-changes.result.now c.args.taken.now.changes c.args.item.now.uuid c.in-Some.number c.in-Some.local.now
    c.as_slice-changes.ensures c.in-Some.ensures.some in
    let q = with_words (changed p c.in_ok-change-in_default-meeting.change) c.take_version-in_default-meeting.new.words in
    record {
      ok = inl (
        c.in-Some.number,
        c.in-Some.local.now,
        c.in_ok-meeting.meeting,
        has,
        c.in_ok-meeting.ensures,
        meets_left c.args.sets.now p c.in-Some.number c.in-Some.local.now c.args.item.now c.in_ok-meeting.meeting c.in_ok-latest-in_default-meeting.latest q
            c.in_default-meeting.not-Same c.in_default-meeting.not-Fork c.in_ok-latest-in_default-meeting.ensures
            (c.in_ok-change-in_default-meeting.ensures.ok p refl),
      );
      number = tt;
      err = tt;
      words = c.take_version-in_default-meeting.ensures.words;
    }
