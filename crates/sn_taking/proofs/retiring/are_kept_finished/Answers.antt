use Rattle.std.proofs.Common.{◌≡◌, Some, None, ap, refl}
use Rattle.std.proofs.lemmas.Bool.{iff_false}
use Rattle.sn_row_map.specs.RowMaps.{row_in}
use Rattle.sn_row_map.specs.Steps.{lent}
use Rattle.sn_rows.specs.Table.{rows_after}
use Rattle.sn_rows.specs.declared.key.Key.{Key}
use Rattle.sn_rows.specs.declared.kind.RowKind.TheVariants as kind
use Rattle.sn_rows.specs.declared.value.Value.{Value}
use Rattle.sn_device.specs.Steps.{IsFinishedAt}
use Rattle.sn_local.proofs.Facts.{walk_begins, walk_ends, walk_goes_on, walk_shorter}
use Rattle.sn_taking.proofs.retiring.are_kept_finished.Goals as goal

pub items-init : goal.items-init
items-init c =
    let P : Key → Value → Type 0 = λ k v. IsFinishedAt (rows_after (row_in c.args.rows.now) c.args.changes.now) c.args.set.now k in
    walk_begins P c.args.rows.now kind.Local (lent c.first-found.result) c.first-found.ensures.walk

pub returns-then-not-branch-clause-finished : goal.returns-then-not-branch-clause-finished
returns-then-not-branch-clause-finished c = λ holds. absurd cc

pub returns-then-not-branch-clause-whole : goal.returns-then-not-branch-clause-whole
returns-then-not-branch-clause-whole c = λ all.
    absurd (iff_false c.in_ok-is_finished_at.ensures c.if-not-branch.true (λ n local named has. all n local has))

pub items-preserved : goal.items-preserved
items-preserved c =
    let P : Key → Value → Type 0 = λ k v. IsFinishedAt (rows_after (row_in c.args.rows.now) c.args.changes.now) c.args.set.now k in
    let found : lent c.items.found ≡ Some (c.in-Some.key.now, c.in-Some.field-0-1.now) = ap lent c.in-Some.is in
    walk_goes_on P P c.args.rows.now kind.Local c.in-Some.key.now c.in-Some.field-0-1.now (lent c.items.found) (lent c.next_after-found.result)
    (λ k v so. so) c.items.invariant found (c.in_ok-is_finished_at.ensures.0 c.if-not-branch.false) c.next_after-found.ensures.walk

pub items-smaller : goal.items-smaller
items-smaller c =
    let found : lent c.items.found ≡ Some (c.in-Some.key.now, c.in-Some.field-0-1.now) = ap lent c.in-Some.is in
    walk_shorter c.args.rows.now c.in-Some.key.now c.in-Some.field-0-1.now (lent c.items.found) (lent c.next_after-found.result) found
    c.next_after-found.ensures.walk

pub returns-clause-finished : goal.returns-clause-finished
returns-clause-finished c = λ _.
    let P : Key → Value → Type 0 = λ k v. IsFinishedAt (rows_after (row_in c.args.rows.now) c.args.changes.now) c.args.set.now k in
    let none : lent c.items.found ≡ None = ap lent c.in_default.is in
    walk_ends P c.args.rows.now kind.Local (lent c.items.found) c.items.invariant c.first-found.ensures.rows none

pub returns-clause-whole : goal.returns-clause-whole
returns-clause-whole c = λ _. refl
