use Rattle.std.proofs.Common.{add-one, ◌≡◌, ◌+◌, suc}
use Rattle.sn_account.proofs.accounts.begin.Goals as goal

pub returns : goal.returns
returns c =
    let next : c.args.store.now.accounts + 1 ≡ suc c.args.store.now.accounts = add-one c.args.store.now.accounts in
    let made = rw next at c.in_ok-changes.ensures in
    record {
      account = made.0;
      account_puts = made.3;
      generation = made.1;
      generation_puts = made.4;
      count = made.2;
      count_puts = made.5;
      changes_are = made.6;
      answers = rw next at c.in_ok-answer.ensures;
    }
