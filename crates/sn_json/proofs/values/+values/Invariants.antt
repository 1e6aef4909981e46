use Rattle.std.proofs.Common.{◌≡◌, drop, length}
use Rattle.std.specs.Prelude.{is_some}
use Rattle.json.specs.Tree.{items_tokens, json_tokens, members_tokens}
use Rattle.json.specs.Value.{items_view, members_view, value_view}
use Rattle.serde_json.specs.Data.{no_members}
use Rattle.serde_json.specs.Read.{of_items, of_members}
use Rattle.sn_json.proofs.values.+values.Given as goal

abbrev pub decreases-has_value : goal.decreases-has_value
decreases-has_value l = length (json_tokens (value_view l.tree.now))

abbrev pub decreases-items_have_values : goal.decreases-items_have_values
decreases-items_have_values l = length (items_tokens (items_view l.items.now))

abbrev pub decreases-members_have_values : goal.decreases-members_have_values
decreases-members_have_values l = length (members_tokens (members_view l.members.now))

abbrev pub invariant-items_have_values-loop-item : goal.invariant-items_have_values-loop-item
invariant-items_have_values-loop-item l = is_some (of_items (items_view l.items)) ≡ is_some (of_items (items_view (drop l.item-index l.items)))

abbrev pub invariant-members_have_values-loop-member : goal.invariant-members_have_values-loop-member
invariant-members_have_values-loop-member l =
    is_some (of_members (members_view l.members) no_members) ≡ is_some (of_members (members_view (drop l.member-index l.members)) no_members)
