use Rattle.sn_sync.proofs.AnswersBack.{answers_read_back}
use Rattle.sn_sync.proofs.written_laws.answers_read_back.Goals as goal

pub returns : goal.returns
returns c = answers_read_back
