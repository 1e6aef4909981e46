use Rattle.std.proofs.Common.{◌≡◌, ◌↔◌, IsTrue, Some, None, ap, subst, sym}
use Rattle.sn_rekey.specs.Carrying.{IsOfOther}
use Rattle.sn_row_map.specs.RowMaps.{row_in}
use Rattle.sn_row_map.specs.Steps.{lent}
use Rattle.sn_rows.specs.declared.device_rows.LocalItem.{LocalItem}
use Rattle.sn_device.specs.Changing.{IsFirstItem}
use Rattle.sn_adopting.proofs.FirstItems.{found_first, found_local, none_at_all, none_first, none_next}
use Rattle.sn_local.proofs.Facts.{walk_shorter}
use Rattle.sn_adopting.proofs.beginning.first_of_other.Goals as goal

pub items-init : goal.items-init
items-init c = none_first c.args.rows.now (IsOfOther c.args.present.now) (lent c.first-found.result) c.first-found.ensures.first

pub unreachable-requires : goal.unreachable-requires
unreachable-requires c =
    let found : lent c.items.found ≡ Some (c.in-Some.key.now, c.in-Some.value.now) = ap lent c.in-Some.is in
    let item = found_local c.args.rows.now (IsOfOther c.args.present.now) (lent c.items.found) c.in-Some.key.now c.in-Some.value.now c.items.invariant found c.requires.kinds in
    c.in_default-value.not-Local item.0 item.1

pub returns-then-branch-clause-some : goal.returns-then-branch-clause-some
returns-then-branch-clause-some c =
    let found : lent c.items.found ≡ Some (c.in-Some.key.now, c.in-Some.value.now) = ap lent c.in-Some.is in
    let test : IsTrue c.in_ok-is_of_other.field-0 ↔ IsOfOther c.args.present.now c.in-Local.item = rw c.get-item.ensures at c.in_ok-is_of_other.ensures in
    subst (λ (local : LocalItem). IsFirstItem (row_in c.args.rows.now) (IsOfOther c.args.present.now) local.uuid) (sym c.get-item.ensures)
    (found_first c.args.rows.now (IsOfOther c.args.present.now) (lent c.items.found) c.in-Some.key.now c.in-Some.value.now c.items.invariant found c.in-Local.item c.in-Local.is
    (test.0 c.if-branch.true))

pub items-preserved : goal.items-preserved
items-preserved c =
    let found : lent c.items.found ≡ Some (c.in-Some.key.now, c.in-Some.value.now) = ap lent c.in-Some.is in
    let test : IsTrue c.in_ok-is_of_other.field-0 ↔ IsOfOther c.args.present.now c.in-Local.item = rw c.get-item.ensures at c.in_ok-is_of_other.ensures in
    none_next c.args.rows.now (IsOfOther c.args.present.now) (lent c.items.found) c.in-Some.key.now c.in-Some.value.now c.items.invariant found c.in-Local.item c.in-Local.is
    (lent c.next_after-found.result) (λ of. let is = test.1 of in let not = c.if-branch.false in cc) c.next_after-found.ensures.next

pub items-smaller : goal.items-smaller
items-smaller c =
    let found : lent c.items.found ≡ Some (c.in-Some.key.now, c.in-Some.value.now) = ap lent c.in-Some.is in
    walk_shorter c.args.rows.now c.in-Some.key.now c.in-Some.value.now (lent c.items.found) (lent c.next_after-found.result) found
    c.next_after-found.ensures.walk

pub returns-clause-none : goal.returns-clause-none
returns-clause-none c =
    let end : lent c.items.found ≡ None = ap lent c.in_default.is in
    none_at_all c.args.rows.now (IsOfOther c.args.present.now) (lent c.items.found) c.items.invariant end
