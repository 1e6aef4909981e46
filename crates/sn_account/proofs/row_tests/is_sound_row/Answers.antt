use Rattle.sn_account.specs.States.{state_rows}
use Rattle.sn_account.proofs.ItemTests.{of_row}
use Rattle.sn_account.proofs.row_tests.is_sound_row.Goals as goal

pub returns : goal.returns
returns c =
    of_row (state_rows c.args.state.now) c.args.last c.args.key.now c.args.value.now c.in-Item.uuid c.in-Item-value.row
    c.is_sound_item.result c.in-Item.is c.in-Item-value.is c.is_sound_item.ensures
