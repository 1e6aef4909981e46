use Rattle.std.proofs.Common.{◌≡◌, Some, None, refl, ap}
use Rattle.sn_row_map.specs.Steps.{lent}
use Rattle.sn_rows.specs.declared.key.Key.TheVariants as key
use Rattle.sn_rows.specs.declared.kind.RowKind.TheVariants as kind
use Rattle.sn_rows.specs.declared.value.Value.TheVariants as value
use Rattle.sn_local.specs.Index.{IndexesRow}
use Rattle.sn_local.proofs.IndexLemmas.{kept_still, walk_begins, walk_ends, walk_goes_on, walk_shorter}
use Rattle.sn_local.proofs.index.Index.of_rows.Goals as goal

pub items-init : goal.items-init
items-init c = walk_begins (IndexesRow c.new-index.result) c.args.rows.now kind.Local (lent c.first-found.result) c.first-found.ensures.walk

pub items-preserved : goal.items-preserved
items-preserved c =
    let found : lent c.items.found ≡ Some (c.in-Some.key.now, c.in-Some.value.now) = ap lent c.in-Some.is in
    walk_goes_on (IndexesRow c.items.index) (IndexesRow c.add_row.new.self) c.args.rows.now kind.Local c.in-Some.key.now c.in-Some.value.now
    (lent c.items.found) (lent c.next_after-found.result)
    (λ k v indexed n local is_key is_value. kept_still c.items.index c.add_row.new.self n local c.add_row.ensures.kept (indexed n local is_key is_value))
    c.items.invariant found c.in_ok-add_row.ensures.listed c.next_after-found.ensures.walk

pub items-smaller : goal.items-smaller
items-smaller c =
    let found : lent c.items.found ≡ Some (c.in-Some.key.now, c.in-Some.value.now) = ap lent c.in-Some.is in
    walk_shorter c.args.rows.now c.in-Some.key.now c.in-Some.value.now (lent c.items.found) (lent c.next_after-found.result) found
    c.next_after-found.ensures.walk

pub returns : goal.returns
returns c = λ n local stands.
    let none : lent c.items.found ≡ None = ap lent c.in_default.is in
    walk_ends (IndexesRow c.items.index) c.args.rows.now kind.Local (lent c.items.found) c.items.invariant c.first-found.ensures.rows none
    (key.Local n) (value.Local local) refl stands n local refl refl
