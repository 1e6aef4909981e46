use Rattle.std.proofs.Common.{refl}
use Rattle.sn_account.proofs.incoming.accept.Goals as goal

pub returns-clause-effect : goal.returns-clause-effect
returns-clause-effect c = record {
  row = c.in_ok-row.row;
  change = c.put_item.result;
  given = c.in_ok-saved.saved;
  accepted = c.in_ok-row.ensures;
  puts = c.put_item.ensures;
  given_is = c.in_ok-saved.ensures;
  is = refl;
}
