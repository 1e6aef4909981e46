use Rattle.sn_pull.proofs.MayLemmas.{begun_may_pull}
use Rattle.sn_pull.proofs.laws.begun_may_pull.Goals as goal

pub returns : goal.returns
returns c = begun_may_pull
