use Rattle.sn_aes.specs.Inverse.{inverse_round}
use Rattle.sn_aes.proofs.Words.{same_words}
use Rattle.sn_aes.proofs.decryption.inverse_round.Goals as goal

pub returns : goal.returns
unfolding inverse_round
returns c = same_words _ _ _ _ c.inverse_column.ensures c.inverse_column-2.ensures c.inverse_column-3.ensures c.inverse_column-4.ensures
