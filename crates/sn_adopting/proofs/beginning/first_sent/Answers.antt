use Rattle.std.proofs.Common.{◌≡◌, ◌∙◌, Some, None, ap, subst, sym}
use Rattle.std.specs.Prelude.{IsSome}
use Rattle.sn_row_map.specs.RowMaps.{row_in}
use Rattle.sn_row_map.specs.Steps.{lent}
use Rattle.sn_rows.specs.declared.device_rows.LocalItem.{LocalItem}
use Rattle.sn_device.specs.Changing.{IsFirstItem}
use Rattle.sn_adopting.proofs.FirstItems.{found_first, found_local, none_at_all, none_first, none_next, not_some}
use Rattle.sn_local.proofs.Facts.{walk_shorter}
use Rattle.sn_adopting.proofs.beginning.first_sent.Goals as goal

pub items-init : goal.items-init
items-init c = none_first c.args.rows.now (λ local. IsSome local.posted) (lent c.first-found.result) c.first-found.ensures.first

pub unreachable-requires : goal.unreachable-requires
unreachable-requires c =
    let found : lent c.items.found ≡ Some (c.in-Some.key.now, c.in-Some.value.now) = ap lent c.in-Some.is in
    let item = found_local c.args.rows.now (λ local. IsSome local.posted) (lent c.items.found) c.in-Some.key.now c.in-Some.value.now c.items.invariant found c.requires.kinds in
    c.in_default-value.not-Local item.0 item.1

pub returns-then-is_some-clause-some : goal.returns-then-is_some-clause-some
returns-then-is_some-clause-some c =
    let found : lent c.items.found ≡ Some (c.in-Some.key.now, c.in-Some.value.now) = ap lent c.in-Some.is in
    subst (λ (local : LocalItem). IsFirstItem (row_in c.args.rows.now) (λ local. IsSome local.posted) local.uuid) (sym c.get-item.ensures)
    (found_first c.args.rows.now (λ local. IsSome local.posted) (lent c.items.found) c.in-Some.key.now c.in-Some.value.now c.items.invariant found c.in-Local.item c.in-Local.is
    (subst (λ (local : LocalItem). IsSome local.posted) c.get-item.ensures (sym c.is_some.ensures ∙ c.if-is_some.true)))

pub items-preserved : goal.items-preserved
items-preserved c =
    let found : lent c.items.found ≡ Some (c.in-Some.key.now, c.in-Some.value.now) = ap lent c.in-Some.is in
    let not : ¬ (IsSome c.in-Local.item.posted) =
    λ some. let is = sym c.is_some.ensures ∙ c.if-is_some.false in let posted = c.get-item.ensures in cc in
    none_next c.args.rows.now (λ local. IsSome local.posted) (lent c.items.found) c.in-Some.key.now c.in-Some.value.now c.items.invariant found c.in-Local.item c.in-Local.is
    (lent c.next_after-found.result) not c.next_after-found.ensures.next

pub items-smaller : goal.items-smaller
items-smaller c =
    let found : lent c.items.found ≡ Some (c.in-Some.key.now, c.in-Some.value.now) = ap lent c.in-Some.is in
    walk_shorter c.args.rows.now c.in-Some.key.now c.in-Some.value.now (lent c.items.found) (lent c.next_after-found.result) found
    c.next_after-found.ensures.walk

pub returns-clause-none : goal.returns-clause-none
returns-clause-none c = λ number local has.
    let end : lent c.items.found ≡ None = ap lent c.in_default.is in
    not_some local.posted (none_at_all c.args.rows.now (λ local. IsSome local.posted) (lent c.items.found) c.items.invariant end number local has)
