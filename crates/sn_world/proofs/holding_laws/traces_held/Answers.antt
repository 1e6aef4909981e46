use Rattle.sn_world.proofs.Holders.{traces_held}
use Rattle.sn_world.proofs.holding_laws.traces_held.Goals as goal

pub returns : goal.returns
returns c = traces_held c.holds_first.ensures c.keeps.ensures c.keeps_held.ensures
