use Rattle.sn_world.proofs.FittingGoes.{syncs_end_by}
use Rattle.sn_world.proofs.fitting_laws.syncs_end_by.Goals as goal

pub returns : goal.returns
returns c = syncs_end_by c.calls_fit.ensures c.syncs_end.ensures
