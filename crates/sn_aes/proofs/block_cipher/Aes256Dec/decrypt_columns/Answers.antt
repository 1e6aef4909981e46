use Rattle.std.proofs.Common.{List, ℕ, refl, ◌∙◌, ap, sym, subst}
use Rattle.sn_aes.specs.Cipher.{aes256, cipher, expanded, four_words}
use Rattle.sn_aes.specs.Inverse.{AreInverseKeys}
use Rattle.sn_aes.proofs.InverseLemmas.{cipher_of_inverse, words_small}
use Rattle.sn_aes.proofs.OnlyLemmas.{cipher_injective}
use Rattle.sn_aes.proofs.block_cipher.Aes256Dec.decrypt_columns.Goals as goal

pub returns : goal.returns
unfolding aes256
returns c =
    let aes = c.self.inside in
    let key = c.args.self.now in
    let columns = c.args.columns in
    let plain = four_words c.decrypt_words.result 0 in
    let keys : AreInverseKeys (expanded key 52) aes.keys = subst (λ (k : List ℕ). AreInverseKeys (expanded k 52) aes.keys) c.self.view_is c.self.invariant in
    let found = ap (cipher (expanded key 52)) c.decrypt_words.ensures
    ∙ cipher_of_inverse (expanded key 52) aes.keys (four_words columns 0) keys (words_small columns 0) refl in
    record {
      block = found;
      only = λ b is_block e.
          cipher_injective (expanded key 52) b plain is_block.1 (words_small c.decrypt_words.result 0) is_block.0 refl (e ∙ sym found);
    }
