use Rattle.std.proofs.Common.{List, ℕ, refl, ap, ◌∙◌}
use Rattle.sn_aes.specs.Cipher.{four_words, add_round_key}
use Rattle.sn_aes.specs.Inverse.{inverse_cipher, inverse_rounds, inverse_shift_rows, inverse_sub_bytes}
use Rattle.sn_aes.proofs.Words.{inverse_rounds_more}
use Rattle.sn_aes.proofs.decryption.decrypt_words.Goals as goal

pub returns : goal.returns
unfolding inverse_cipher inverse_rounds
returns c =
    let keys = c.args.keys.now in
    let block = four_words c.args.s 0 in
    let four = c.four_inverse_rounds-s.ensures block c.add_words-s.ensures in
    let eight = c.four_inverse_rounds-s-2.ensures block four in
    let twelve = c.four_inverse_rounds-s-3.ensures block eight in
    let thirteen = inverse_rounds_more keys block _ _ 12 13 1 refl refl twelve c.inverse_round-s.ensures in
    c.inverse_last_round.ensures ∙ ap (λ (x : List ℕ). add_round_key keys (inverse_shift_rows (inverse_sub_bytes x)) 0) thirteen
