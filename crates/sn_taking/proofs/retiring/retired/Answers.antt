use Rattle.std.proofs.lemmas.Bool.{iff_false}
use Rattle.sn_row_map.specs.RowMaps.{row_in}
use Rattle.sn_rows.specs.Table.{rows_after}
use Rattle.sn_taking.proofs.RetireLemmas.{goes, none_held, not_all, page_left}
use Rattle.sn_taking.proofs.retiring.retired.Goals as goal

pub returns-in_default-clause-none : goal.returns-in_default-clause-none
returns-in_default-clause-none c =
    none_held (rows_after (row_in c.args.rows.now) c.args.changes.now) c.args.cursor.now c.args.sets.now.older c.in_default.is

pub returns-then-is_some-clause-none : goal.returns-then-is_some-clause-none
returns-then-is_some-clause-none c =
    page_left (rows_after (row_in c.args.rows.now) c.args.changes.now) c.args.cursor.now c.args.sets.now.older c.in-Some.older c.is_some.result
    c.in-Some.is c.is_some.ensures c.if-is_some.true

pub returns-then-not-branch-clause-none : goal.returns-then-not-branch-clause-none
returns-then-not-branch-clause-none c =
    not_all (rows_after (row_in c.args.rows.now) c.args.changes.now) c.args.cursor.now c.args.sets.now.older c.in-Some.older c.in-Some.is
    (iff_false c.in_ok-all_finished.ensures c.if-not-branch.true)

pub returns-clause-some : goal.returns-clause-some
returns-clause-some c =
    goes (rows_after (row_in c.args.rows.now) c.args.changes.now) c.args.cursor.now c.args.sets.now.older c.in-Some.older c.is_some.result c.in-Some.is
    c.is_some.ensures c.if-is_some.false (c.in_ok-all_finished.ensures.0 c.if-not-branch.false)
