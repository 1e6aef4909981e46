use Rattle.std.proofs.Common.{◌≡◌, Some, None, ap}
use Rattle.sn_laws.specs.Lookups.{draft_at}
use Rattle.sn_report.specs.Showing.{draft_lines}
use Rattle.sn_row_map.specs.RowMaps.{row_in}
use Rattle.sn_row_map.specs.Steps.{lent}
use Rattle.sn_shows.specs.Devices.{ShowsDrafted}
use Rattle.sn_shown.proofs.DraftsGathered.{draft_line, draft_of, draft_row}
use Rattle.sn_shown.proofs.LinesGathered.{IsGathered, add_row, all_gathered, local_or_not, none_gathered, row_stands, skip_row}
use Rattle.sn_shown.proofs.WalkLemmas.{walk_shorter}
use Rattle.sn_shown.proofs.draft_lines.drafts_by_label.Goals as goal

pub items-init : goal.items-init
items-init c = λ s shows.
    none_gathered c.args.rows.now c.args.labels.now (draft_of c.args.labels.now s c.args.name.now) c.new-drafts.result (lent c.first-found.result)
    c.new-drafts.ensures.empty c.new-drafts.ensures.ordered c.first-found.ensures.walk c.first-found.ensures.first

pub items-preserved : goal.items-preserved
items-preserved c = λ s shows.
    let map = c.args.rows.now in
    let labels = c.args.labels.now in
    let name = c.args.name.now in
    let of = draft_of labels s name in
    let has_row = draft_row (row_in map) labels c.args.set.now s name shows in
    let found : lent c.items.found ≡ Some (c.in-Some.key.now, c.in-Some.row.now) = ap lent c.in-Some.is in
    let gathered = c.items.invariant s shows in
    let stands = gathered.stands c.in-Some.key.now c.in-Some.row.now found in
    local_or_not (IsGathered map labels of c.add_row.new.drafts (lent c.next_after-found.result)) c.in-Some.row.now
    (λ item is.
    add_row map labels of has_row c.in-Some.key.now c.in-Some.row.now (lent c.items.found) (lent c.next_after-found.result)
    c.items.drafts c.add_row.new.drafts gathered found c.next_after-found.ensures.walk c.next_after-found.ensures.next item is
    (c.in_ok-add_row.ensures.item item shows.sets shows.number (draft_at s name item.uuid) is shows.set_is
    (row_stands (λ x. ShowsDrafted shows.sets shows.number x (draft_at s name x.uuid)) map c.in-Some.key.now c.in-Some.row.now item shows.shown
    stands.0 stands.1 is)))
    (λ none.
    skip_row map labels of has_row c.in-Some.key.now c.in-Some.row.now (lent c.items.found) (lent c.next_after-found.result)
    c.items.drafts c.add_row.new.drafts gathered found c.next_after-found.ensures.walk c.next_after-found.ensures.next none
    (c.add_row.ensures.other none))

pub items-smaller : goal.items-smaller
items-smaller c =
    let found : lent c.items.found ≡ Some (c.in-Some.key.now, c.in-Some.row.now) = ap lent c.in-Some.is in
    walk_shorter c.args.rows.now c.in-Some.key.now c.in-Some.row.now (lent c.items.found) (lent c.next_after-found.result) found
    c.next_after-found.ensures.walk

pub returns : goal.returns
returns c = λ s shows.
    let labels = c.args.labels.now in
    let name = c.args.name.now in
    let none : lent c.items.found ≡ None = ap lent c.in_default.is in
    all_gathered c.args.rows.now labels (draft_of labels s name) (draft_row (row_in c.args.rows.now) labels c.args.set.now s name shows)
    c.items.drafts (lent c.items.found) (c.items.invariant s shows) c.first-found.ensures.rows none
    (λ uuid. draft_lines labels (draft_at s name uuid)) (draft_line labels s name)
