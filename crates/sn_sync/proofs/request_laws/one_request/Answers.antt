use Rattle.sn_sync.proofs.OneRequest.{one_request}
use Rattle.sn_sync.proofs.request_laws.one_request.Goals as goal

pub returns : goal.returns
returns c = one_request
