use Rattle.sn_world.proofs.Holders.{keeps_held}
use Rattle.sn_world.proofs.holding_laws.keeps_held.Goals as goal

pub returns : goal.returns
returns c = keeps_held c.accounts_apart.ensures c.devices_hold.ensures c.numbers_held.ensures c.keeps.ensures
