use Rattle.sn_sync.proofs.ReadAgain.{answers_read_again}
use Rattle.sn_sync.proofs.written_laws.answers_read_again.Goals as goal

pub returns : goal.returns
returns c = answers_read_again
