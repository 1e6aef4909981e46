use Rattle.std.proofs.Common.{◌∙◌, ap}
use Rattle.sn_aes.specs.Cipher.{aes256, cipher, expanded, four_words}
use Rattle.sn_aes.proofs.block_cipher.Aes256Enc.encrypt_columns.Goals as goal

pub returns : goal.returns
unfolding aes256
returns c =
    let keys = c.self.invariant ∙ ap (λ k. expanded k 52) c.self.view_is in
    c.encrypt_words.ensures ∙ ap (λ w. cipher w (four_words c.args.columns 0)) keys
