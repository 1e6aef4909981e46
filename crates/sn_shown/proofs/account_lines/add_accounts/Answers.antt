use Rattle.std.proofs.Common.{◌∙◌, List, take}
use Rattle.std.specs.List.{flat_map}
use Rattle.sn_laws.specs.Lookups.{Bytes}
use Rattle.sn_report.specs.Labels.{items_of}
use Rattle.sn_report.specs.Showing.{account_lines}
use Rattle.sn_shown.proofs.AccountLines.{items_all, items_more, joined}
use Rattle.sn_shown.proofs.account_lines.add_accounts.Goals as goal

pub items-preserved : goal.items-preserved
items-preserved c = λ s served are sets.
    items_more s.accounts c.args.labels.now c.as_slice-uuid-items.result.now c.items.uuid-index c.uuid-item.result
    c.add_item.new.lists.items (c.as_slice-uuid-items.ensures.value ∙ c.in_ok-labelled.ensures) c.items-test.true c.uuid-item.is
    (c.in_ok-add_item.ensures s (take c.items.uuid-index (items_of c.args.labels.now)) served are sets (c.items.invariant s served are sets))

pub returns : goal.returns
returns c = λ s served are sets.
    joined c.add_lists.result c.args.lines.now c.add_lists.new.lines (flat_map (λ (list : List Bytes). list) c.items.lists.items)
    (flat_map (account_lines c.args.labels.now) s.accounts) c.add_lists.ensures
    (items_all s.accounts c.args.labels.now c.as_slice-uuid-items.result.now c.items.uuid-index c.items.lists.items
    (c.as_slice-uuid-items.ensures.value ∙ c.in_ok-labelled.ensures) c.items-test.false (c.items.invariant s served are sets))
