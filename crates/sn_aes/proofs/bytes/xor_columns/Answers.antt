use Rattle.sn_aes.proofs.Words.{bytes_xor, same_words}
use Rattle.sn_aes.proofs.bytes.xor_columns.Goals as goal

pub returns : goal.returns
returns c = same_words _ _ _ _ (bytes_xor _ _) (bytes_xor _ _) (bytes_xor _ _) (bytes_xor _ _)
