use Rattle.sn_world.proofs.First.{holds_first}
use Rattle.sn_world.proofs.laws.holds_first.Goals as goal

pub returns : goal.returns
returns c = holds_first c.fresh_is_sound.ensures
