use Rattle.sn_account.specs.States.{state_rows}
use Rattle.sn_account.proofs.SoundKinds.{account_there}
use Rattle.sn_account.proofs.soundness.is_there.Goals as goal

pub returns-in-Some : goal.returns-in-Some
returns-in-Some c =
    account_there (state_rows c.args.state.now) c.args.number c.in-Some.account.now c.is_between.result c.in-Some.ensures.some c.is_between.ensures
