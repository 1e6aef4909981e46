use Rattle.sn_account.specs.States.{state_rows}
use Rattle.sn_account.proofs.ItemTests.{owned_or_not}
use Rattle.sn_account.proofs.row_tests.is_owned.Goals as goal

pub returns : goal.returns
returns c =
    owned_or_not (state_rows c.args.state.now) c.args.row.now c.account.result c.account-2.result c.is_some.result c.account.ensures
    c.account-2.ensures.some c.account-2.ensures.none c.is_some.ensures
