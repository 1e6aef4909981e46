use Rattle.sn_account.proofs.BatchSizes.{batches_fit}
use Rattle.sn_account.proofs.answer_laws.batches_fit.Goals as goal

pub returns : goal.returns
returns c = batches_fit
