use Rattle.std.proofs.Common.{rules}
use Rattle.sn_joining.proofs.accounts.renewed.Goals as goal

pub returns-clause-renews : goal.returns-clause-renews
returns-clause-renews c = λ rows owned. record {
  owner = c.args.owner.now;
  owned = owned;
  change = c.in_ok-change.change;
  renewed = record { owner = c.in_ok-row.row; puts_it = c.in_ok-change.ensures; columns_are = c.in_ok-row.ensures };
  changes_are = search rules;
}
