use Rattle.sn_sync.proofs.OneRefusal.{one_request_refusal}
use Rattle.sn_sync.proofs.request_laws.one_request_refusal.Goals as goal

pub returns : goal.returns
returns c = one_request_refusal
