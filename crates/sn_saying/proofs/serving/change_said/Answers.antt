use Rattle.sn_row_map.specs.RowMaps.{row_in}
use Rattle.sn_saying.proofs.ServedLemmas.{says_put}
use Rattle.sn_saying.proofs.serving.change_said.Goals as goal

pub returns-in_ok-said-in-Item-Item : goal.returns-in_ok-said-in-Item-Item
returns-in_ok-said-in-Item-Item c =
    says_put (row_in c.args.server.now) (row_in c.args.device.now) c.args.name.now c.args.change.now c.in-Put.row c.in-Item-Item.uuid c.in-Item-Item.item _
    c.in-Put.is c.in-Item-Item.is-0 c.in-Item-Item.is-1 c.in_ok-said-in-Item-Item.ensures
