use Rattle.std.proofs.Common.{◌≡◌, ◌<◌, length, true, sym, ap, ◌∙◌, subst, arith, rules}
use Rattle.std.specs.Prelude.{is_some}
use Rattle.json.specs.Tree.{items_tokens, json_tokens, members_tokens}
use Rattle.json.specs.Value.{items_view, members_view, value_view}
use Rattle.json.proofs.Trees.{item_smaller, member_smaller, view-Object}
use Rattle.serde_json.specs.Data.{no_members}
use Rattle.serde_json.specs.Read.{of_json, of_members}
use Rattle.sn_json.proofs.Wholes.{is_some-object, member_with}
use Rattle.sn_json.proofs.values.+values.Goals as goal

pub has_value-returns-in-Object : goal.has_value-returns-in-Object
has_value-returns-in-Object t c =
    let ms = c.in-Object.members.items in
    let seen = ap value_view c.in-Object.is ∙ view-Object c.in-Object.members in
    c.members_have_values.ensures ∙ ap (λ ns. is_some (of_members (members_view ns) no_members)) c.deref-in-Object.ensures.value
    ∙ is_some-object (members_view ms) ∙ ap (λ j. is_some (of_json j)) (sym seen)

pub items_have_values-has_value-requires : goal.items_have_values-has_value-requires
items_have_values-has_value-requires t c =
    let xs = c.args.items.now in
    let x = c.item-item.result in
    let smaller : length (json_tokens (value_view x)) < length (items_tokens (items_view xs)) =
    subst (λ y. length (json_tokens (value_view y)) < length (items_tokens (items_view xs))) (sym c.item-item.is) (item_smaller xs c.loop-item.item-index x (omega arith)) in
    search rules

pub members_have_values-has_value-requires : goal.members_have_values-has_value-requires
members_have_values-has_value-requires t c =
    let ms = c.args.members.now in
    let m = c.member-item.result in
    let smaller : length (json_tokens (value_view m.1)) < length (members_tokens (members_view ms)) =
    subst (λ n. length (json_tokens (value_view n.1)) < length (members_tokens (members_view ms))) (sym c.member-item.is) (member_smaller ms c.loop-member.member-index m (omega arith)) in
    search rules

pub members_have_values-loop-member-preserved : goal.members_have_values-loop-member-preserved
members_have_values-loop-member-preserved t c =
    let m = c.member-item.result in
    let has : is_some (of_json (value_view m.1)) ≡ true = grind arith in
    c.loop-member.invariant ∙ member_with c.args.members.now c.loop-member.member-index m (omega arith) c.member-item.is has
