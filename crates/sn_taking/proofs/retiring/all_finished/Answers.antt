use Rattle.std.proofs.lemmas.Bool.{iff_false}
use Rattle.sn_row_map.specs.RowMaps.{row_in}
use Rattle.sn_taking.proofs.RetireLemmas.{all_both, all_put, both_ways}
use Rattle.sn_local.proofs.Facts.{never}
use Rattle.sn_taking.proofs.retiring.all_finished.Goals as goal

pub returns-then-not-branch : goal.returns-then-not-branch
returns-then-not-branch c =
    never (λ all. iff_false c.in_ok-are_put_finished.ensures c.if-not-branch.true
    (all_put (row_in c.args.rows.now) c.args.changes.now c.args.set.now all))

pub returns : goal.returns
returns c =
    both_ways c.are_kept_finished.result
    (all_both (row_in c.args.rows.now) c.args.changes.now c.args.set.now (c.in_ok-are_put_finished.ensures.0 c.if-not-branch.false))
    c.are_kept_finished.ensures.finished c.are_kept_finished.ensures.whole
