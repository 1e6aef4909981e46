use Rattle.sn_aes.proofs.Words.{same_words}
use Rattle.sn_aes.proofs.encryption.last_round.Goals as goal

pub returns : goal.returns
returns c = same_words _ _ _ _ c.last_column.ensures c.last_column-2.ensures c.last_column-3.ensures c.last_column-4.ensures
