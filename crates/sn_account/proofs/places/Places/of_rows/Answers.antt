use Rattle.std.proofs.Common.{◌≡◌, Some, None, refl, ap}
use Rattle.sn_row_map.specs.Steps.{lent}
use Rattle.sn_rows.specs.declared.key.Key.TheVariants as key
use Rattle.sn_rows.specs.declared.kind.RowKind.TheVariants as kind
use Rattle.sn_rows.specs.declared.value.Value.TheVariants as value
use Rattle.sn_account.specs.Places.{PlacesRow, place_of}
use Rattle.sn_account.proofs.AllRows.{in_rows_by, rows_end, rows_more}
use Rattle.sn_account.proofs.places.Places.of_rows.Goals as goal

pub items-preserved : goal.items-preserved
items-preserved c =
    let found : lent c.items.found ≡ Some (c.in-Some.key.now, c.in-Some.value.now) = ap lent c.in-Some.is in
    let kept = in_rows_by (PlacesRow c.items.places) (PlacesRow c.add_row.new.self) c.args.rows.now kind.Item (lent c.items.found)
    (λ k v stands u i is_key is_value. c.add_row.ensures.kept (place_of u i) (stands u i is_key is_value)) c.items.invariant in
    rows_more (PlacesRow c.add_row.new.self) c.args.rows.now kind.Item c.in-Some.key.now c.in-Some.value.now (lent c.items.found)
    (lent c.next_after-found.result) kept found c.in_ok-add_row.ensures.placed c.next_after-found.ensures.walk

pub returns : goal.returns
returns c = λ u i stands.
    let none : lent c.items.found ≡ None = ap lent c.in_default.is in
    rows_end (PlacesRow c.items.places) c.args.rows.now kind.Item (lent c.items.found) c.items.invariant c.first-found.ensures.rows none
    (key.Item u) (value.Item i) refl stands u i refl refl
