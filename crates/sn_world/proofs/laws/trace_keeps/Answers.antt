use Rattle.sn_world.proofs.Traced.{trace_keeps}
use Rattle.sn_world.proofs.laws.trace_keeps.Goals as goal

pub returns : goal.returns
returns c = trace_keeps c.holds_first.ensures c.keeps.ensures
