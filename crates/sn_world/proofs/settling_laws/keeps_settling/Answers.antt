use Rattle.sn_world.proofs.Settled.{keeps_settling}
use Rattle.sn_world.proofs.settling_laws.keeps_settling.Goals as goal

pub returns : goal.returns
returns c = keeps_settling c.accounts_apart.ensures c.settles_own.ensures c.applies_live.ensures c.settle_keeps.ensures
