use Rattle.std.proofs.Common.{below_more, arith, refl, subst, sym}
use Rattle.std.specs.List.{HoldsAt}
use Rattle.std.proofs.lemmas.Bool.{iff_false}
use Rattle.std.proofs.lemmas.List.Elements.{at_read}
use Rattle.sn_row_map.specs.RowMaps.{row_in}
use Rattle.sn_rows.specs.Table.{key_of, rows_after}
use Rattle.sn_rows.specs.declared.change.Change.{Change}
use Rattle.sn_device.specs.Steps.{IsFinishedAt}
use Rattle.sn_taking.proofs.RetireLemmas.{one_fails}
use Rattle.sn_local.proofs.Facts.{never}
use Rattle.sn_taking.proofs.retiring.are_put_finished.Goals as goal

pub returns-then-not-branch : goal.returns-then-not-branch
returns-then-not-branch c =
    let rows = rows_after (row_in c.args.rows.now) c.args.changes.now in
    let P : Change → Type 0 = λ x. IsFinishedAt rows c.args.set.now (key_of x) in
    never (one_fails P c.args.changes.now c.changes.change-index c.change-item.result (omega arith) c.change-item.is
    (λ so. iff_false c.in_ok-is_finished_at.ensures c.if-not-branch.true (subst (IsFinishedAt rows c.args.set.now) (sym c.key.ensures) so)))

pub changes-preserved : goal.changes-preserved
changes-preserved c =
    let rows = rows_after (row_in c.args.rows.now) c.args.changes.now in
    let P : Change → Type 0 = λ x. IsFinishedAt rows c.args.set.now (key_of x) in
    below_more (λ k. HoldsAt P c.args.changes.now k) c.changes.change-index c.changes.invariant
    (at_read c.args.changes.now P c.changes.change-index c.change-item.result (omega arith) c.change-item.is
    (subst (IsFinishedAt rows c.args.set.now) c.key.ensures (c.in_ok-is_finished_at.ensures.0 c.if-not-branch.false)))

pub returns : goal.returns
returns c = (λ _ k d less. c.changes.invariant k (omega arith) d, λ _. refl)
