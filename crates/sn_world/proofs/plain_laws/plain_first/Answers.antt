use Rattle.sn_world.proofs.PlainKept.{plain_first}
use Rattle.sn_world.proofs.plain_laws.plain_first.Goals as goal

pub returns : goal.returns
returns c = plain_first c.holds_first.ensures
