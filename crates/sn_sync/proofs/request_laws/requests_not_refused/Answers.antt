use Rattle.sn_sync.proofs.NotRefused.{requests_not_refused}
use Rattle.sn_sync.proofs.request_laws.requests_not_refused.Goals as goal

pub returns : goal.returns
returns c = requests_not_refused
