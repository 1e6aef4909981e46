use Rattle.sn_account.specs.States.{state_rows}
use Rattle.sn_account.proofs.ItemTests.{then_strings}
use Rattle.sn_account.proofs.row_tests.is_sound_item.Goals as goal

pub returns : goal.returns
returns c =
    then_strings (state_rows c.args.state.now) c.args.last c.args.uuid.now c.args.row.now c.has_sound_strings.result c.sized-uuid.ensures
    (c.is_owned.ensures.0 c.if-not-is_owned.false) (c.has_sound_stamps.ensures.0 c.if-not-has_sound_stamps.false) c.has_sound_strings.ensures
