use Rattle.sn_account.specs.States.{state_rows}
use Rattle.sn_account.proofs.SoundKinds.{reached_key}
use Rattle.sn_account.proofs.row_tests.is_of_account.Goals as goal

pub returns-in-Generation : goal.returns-in-Generation
returns-in-Generation c =
    reached_key (state_rows c.args.state.now) c.args.key.now c.in-Generation.number c.in-Generation.generation c.is_generation_of.result
    c.in-Generation.is c.is_generation_of.ensures
