use Rattle.sn_aes.specs.Cipher.{round}
use Rattle.sn_aes.proofs.Words.{same_words}
use Rattle.sn_aes.proofs.encryption.round.Goals as goal

pub returns : goal.returns
unfolding round
returns c = same_words _ _ _ _ c.column.ensures c.column-2.ensures c.column-3.ensures c.column-4.ensures
