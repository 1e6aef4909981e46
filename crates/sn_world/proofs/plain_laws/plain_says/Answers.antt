use Rattle.sn_world.proofs.PlainSaid.{plain_says}
use Rattle.sn_world.proofs.plain_laws.plain_says.Goals as goal

pub returns : goal.returns
returns c = plain_says c.keeps_serving.ensures
