use Rattle.sn_account.specs.States.{state_rows}
use Rattle.sn_account.proofs.SoundKinds.{reached_some}
use Rattle.sn_account.proofs.row_tests.is_generation_of.Goals as goal

pub returns-in-Some : goal.returns-in-Some
returns-in-Some c =
    reached_some (state_rows c.args.state.now) c.args.number c.args.generation c.in-Some.account.now c.is_between.result c.in-Some.ensures.some
    c.is_between.ensures
