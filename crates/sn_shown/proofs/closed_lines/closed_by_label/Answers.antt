use Rattle.std.proofs.Common.{◌≡◌, Some, None, ap}
use Rattle.sn_report.specs.Showing.{closed_lines}
use Rattle.sn_row_map.specs.RowMaps.{row_in}
use Rattle.sn_row_map.specs.Steps.{lent}
use Rattle.sn_shown.specs.Closed.{ShowsClosedItem}
use Rattle.sn_shown.proofs.ClosedGathered.{closed_of, closed_row, one_closed_line}
use Rattle.sn_shown.proofs.LinesGathered.{IsGathered, add_row, all_gathered, local_or_not, none_gathered, row_stands, skip_row}
use Rattle.sn_shown.proofs.WalkLemmas.{walk_shorter}
use Rattle.sn_shown.proofs.closed_lines.closed_by_label.Goals as goal

pub items-init : goal.items-init
items-init c = λ closed shows.
    none_gathered c.args.rows.now c.args.labels.now (closed_of c.args.labels.now c.args.name.now closed) c.new-by_label.result (lent c.first-found.result)
    c.new-by_label.ensures.empty c.new-by_label.ensures.ordered c.first-found.ensures.walk c.first-found.ensures.first

pub items-preserved : goal.items-preserved
items-preserved c = λ closed shows.
    let map = c.args.rows.now in
    let labels = c.args.labels.now in
    let name = c.args.name.now in
    let of = closed_of labels name closed in
    let has_row = closed_row (row_in map) labels c.args.numbers.now c.args.holding.now name closed shows in
    let found : lent c.items.found ≡ Some (c.in-Some.key.now, c.in-Some.row.now) = ap lent c.in-Some.is in
    let gathered = c.items.invariant closed shows in
    let stands = gathered.stands c.in-Some.key.now c.in-Some.row.now found in
    local_or_not (IsGathered map labels of c.add_row.new.by_label (lent c.next_after-found.result)) c.in-Some.row.now
    (λ item is.
    add_row map labels of has_row c.in-Some.key.now c.in-Some.row.now (lent c.items.found) (lent c.next_after-found.result)
    c.items.by_label c.add_row.new.by_label gathered found c.next_after-found.ensures.walk c.next_after-found.ensures.next item is
    (c.in_ok-add_row.ensures.item item (closed item.uuid) is
    (row_stands (λ x. ShowsClosedItem c.args.numbers.now c.args.holding.now x (closed x.uuid)) map c.in-Some.key.now c.in-Some.row.now item shows.shown
    stands.0 stands.1 is)))
    (λ none.
    skip_row map labels of has_row c.in-Some.key.now c.in-Some.row.now (lent c.items.found) (lent c.next_after-found.result)
    c.items.by_label c.add_row.new.by_label gathered found c.next_after-found.ensures.walk c.next_after-found.ensures.next none
    (c.add_row.ensures.other none))

pub items-smaller : goal.items-smaller
items-smaller c =
    let found : lent c.items.found ≡ Some (c.in-Some.key.now, c.in-Some.row.now) = ap lent c.in-Some.is in
    walk_shorter c.args.rows.now c.in-Some.key.now c.in-Some.row.now (lent c.items.found) (lent c.next_after-found.result) found
    c.next_after-found.ensures.walk

pub returns : goal.returns
returns c = λ closed shows.
    let labels = c.args.labels.now in
    let name = c.args.name.now in
    let none : lent c.items.found ≡ None = ap lent c.in_default.is in
    all_gathered c.args.rows.now labels (closed_of labels name closed)
    (closed_row (row_in c.args.rows.now) labels c.args.numbers.now c.args.holding.now name closed shows)
    c.items.by_label (lent c.items.found) (c.items.invariant closed shows) c.first-found.ensures.rows none
    (λ uuid. closed_lines labels name uuid (closed uuid)) (one_closed_line labels name closed)
