-- The cipher under a key is injective, in the words of the public definitions.
use Rattle.std.proofs.Common.{◌≡◌, ℕ, List}
use Rattle.sn_aes.specs.Cipher.{IsBlock, aes256, expanded}
use Rattle.sn_aes.proofs.OnlyLemmas.{cipher_injective}

-- two blocks that the cipher takes to one are the same
pub aes256_injective : (key a b : List ℕ) → IsBlock a → IsBlock b → aes256 key a ≡ aes256 key b → a ≡ b
unfolding aes256
aes256_injective key a b a_block b_block e = cipher_injective (expanded key 52) a b a_block.1 b_block.1 a_block.0 b_block.0 e
