use Rattle.std.proofs.Common.{◌≡◌, Some, None, refl, ap}
use Rattle.sn_row_map.specs.Steps.{lent}
use Rattle.sn_rows.specs.declared.key.Key.TheVariants as key
use Rattle.sn_rows.specs.declared.kind.RowKind.TheVariants as kind
use Rattle.sn_rows.specs.declared.value.Value.TheVariants as value
use Rattle.sn_account.specs.Names.{ListsRow}
use Rattle.sn_account.proofs.AllRows.{in_rows_by, rows_end, rows_more}
use Rattle.sn_account.proofs.names.Names.of_rows.Goals as goal

pub accounts-preserved : goal.accounts-preserved
accounts-preserved c =
    let found : lent c.accounts.found ≡ Some (c.in-Some.key.now, c.in-Some.value.now) = ap lent c.in-Some.is in
    let kept = in_rows_by (ListsRow c.accounts.names) (ListsRow c.add_row.new.self) c.args.rows.now kind.Account (lent c.accounts.found)
    (λ k v lists n a is_key is_value. c.add_row.ensures.kept a.identifier n (lists n a is_key is_value)) c.accounts.invariant in
    rows_more (ListsRow c.add_row.new.self) c.args.rows.now kind.Account c.in-Some.key.now c.in-Some.value.now (lent c.accounts.found)
    (lent c.next_after-found.result) kept found c.in_ok-add_row.ensures.listed c.next_after-found.ensures.walk

pub returns : goal.returns
returns c = λ n a stands.
    let none : lent c.accounts.found ≡ None = ap lent c.in_default.is in
    rows_end (ListsRow c.accounts.names) c.args.rows.now kind.Account (lent c.accounts.found) c.accounts.invariant c.first-found.ensures.rows none
    (key.Account n) (value.Account a) refl stands n a refl refl
