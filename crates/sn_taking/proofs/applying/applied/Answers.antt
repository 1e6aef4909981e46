use Rattle.std.proofs.lemmas.Result.{IfOk-weaker}
use Rattle.sn_row_map.specs.RowMaps.{row_in}
use Rattle.sn_taking.proofs.ApplyLemmas.{applied_owned, applies, conflict_versions, retrieved_versions, saved_versions}
use Rattle.sn_taking.proofs.applying.applied.Goals as goal

pub take_answer-requires-clause-saved : goal.take_answer-requires-clause-saved
take_answer-requires-clause-saved c =
    saved_versions c.args.sent.now c.args.saved.now c.args.conflicts.now c.args.retrieved.now c.args.cursor.now c.requires.passes c.requires.saved

pub take_answer-requires-clause-conflicts : goal.take_answer-requires-clause-conflicts
take_answer-requires-clause-conflicts c =
    conflict_versions c.args.sent.now c.args.saved.now c.args.conflicts.now c.args.retrieved.now c.args.cursor.now c.requires.passes c.requires.conflicts

pub take_answer-requires-clause-retrieved : goal.take_answer-requires-clause-retrieved
take_answer-requires-clause-retrieved c =
    retrieved_versions c.args.sent.now c.args.saved.now c.args.conflicts.now c.args.retrieved.now c.args.cursor.now c.requires.passes c.requires.retrieved

pub returns-clause-ok : goal.returns-clause-ok
returns-clause-ok c =
    IfOk-weaker c.and_tokens.result _ _
    (λ changes h.
    applies (row_in c.args.rows.now) c.args.words.now c.args.sent.now c.args.conflicts.now c.args.cursor.now c.args.retrieved.now c.args.saved.now c.args.token.now
    c.args.owner.now c.args.sets.now c.in_ok-taken.taken c.take_answer.new.words c.as_slice.result.now c.in_ok-gone.gone h.0 changes.items
    c.requires.sent_of_rows c.requires.passes c.requires.holds c.in_ok-taken.ensures.ok (c.as_slice.ensures, c.in_ok-gone.ensures.some, c.in_ok-gone.ensures.none)
    h.1 h.2)
    c.and_tokens.ensures.ok

pub returns-clause-owned : goal.returns-clause-owned
returns-clause-owned c =
    IfOk-weaker c.and_tokens.result _ _
    (λ changes h.
    applied_owned (row_in c.args.rows.now) c.args.words.now c.args.conflicts.now c.args.cursor.now c.args.retrieved.now c.args.saved.now c.args.token.now
    c.args.owner.now c.args.sets.now c.in_ok-taken.taken c.take_answer.new.words c.as_slice.result.now c.in_ok-gone.gone h.0 changes.items
    c.in_ok-taken.ensures.ok (c.as_slice.ensures, c.in_ok-gone.ensures.some, c.in_ok-gone.ensures.none) h.1 h.2)
    c.and_tokens.ensures.ok
