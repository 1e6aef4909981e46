use Rattle.std.proofs.Common.{List, ℕ, refl, ap, ◌∙◌}
use Rattle.sn_aes.specs.Cipher.{cipher, rounds, four_words, add_round_key, shift_rows, sub_bytes}
use Rattle.sn_aes.proofs.Words.{rounds_more}
use Rattle.sn_aes.proofs.encryption.encrypt_words.Goals as goal

pub returns : goal.returns
unfolding cipher rounds
returns c =
    let keys = c.args.keys.now in
    let block = four_words c.args.s 0 in
    let four = c.four_rounds-s.ensures block c.add_words-s.ensures in
    let eight = c.four_rounds-s-2.ensures block four in
    let twelve = c.four_rounds-s-3.ensures block eight in
    let thirteen = rounds_more keys block _ _ 12 13 refl twelve c.round-s.ensures in
    c.last_round.ensures ∙ ap (λ (x : List ℕ). add_round_key keys (shift_rows (sub_bytes x)) 14) thirteen
