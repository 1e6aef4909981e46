use Rattle.sn_sync.proofs.RequestsBack.{requests_read_back}
use Rattle.sn_sync.proofs.written_laws.requests_read_back.Goals as goal

pub returns : goal.returns
returns c = requests_read_back
