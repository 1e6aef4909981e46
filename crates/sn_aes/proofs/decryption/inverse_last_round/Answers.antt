use Rattle.sn_aes.proofs.Words.{same_words}
use Rattle.sn_aes.proofs.decryption.inverse_last_round.Goals as goal

pub returns : goal.returns
returns c = same_words _ _ _ _ c.inverse_last_column.ensures c.inverse_last_column-2.ensures c.inverse_last_column-3.ensures c.inverse_last_column-4.ensures
