use Rattle.sn_sync.proofs.ReadAgain.{requests_read_again}
use Rattle.sn_sync.proofs.written_laws.requests_read_again.Goals as goal

pub returns : goal.returns
returns c = requests_read_again
