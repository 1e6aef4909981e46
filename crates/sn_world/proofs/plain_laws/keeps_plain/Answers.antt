use Rattle.sn_world.proofs.PlainKept.{keeps_plain}
use Rattle.sn_world.proofs.plain_laws.keeps_plain.Goals as goal

pub returns : goal.returns
returns c = keeps_plain c.keeps.ensures c.plain_says.ensures
