use Rattle.std.proofs.Common.{sym, ap, ◌∙◌}
use Rattle.sn_rows.specs.declared.server_rows.AccountRow.{AccountRow}
use Rattle.sn_saying.proofs.accounts.account_of.Goals as goal

pub returns-else-not-same-clause-some : goal.returns-else-not-same-clause-some
returns-else-not-same-clause-some c = record {
  row = c.in-Account-Account.row;
  at_is = c.in-Account-Account.is-0;
  value_is = c.in-Account-Account.is-1;
  identifier_is = sym (ap (λ (r : AccountRow). r.identifier) c.get-row.ensures) ∙ c.same.ensures.0 c.if-not-same.false;
  generation_is = sym (ap (λ (r : AccountRow). r.generation) c.get-row.ensures);
}
