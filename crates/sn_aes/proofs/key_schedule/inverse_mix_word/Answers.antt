use Rattle.std.proofs.Common.{◌≡◌, ◌∙◌, ap, rules}
use Rattle.sn_aes.specs.Inverse.{inverse_sbox}
use Rattle.sn_aes.proofs.TableRows.{inverse_of_sbox}
use Rattle.sn_aes.proofs.Words.{four_bytes}
use Rattle.sn_aes.proofs.key_schedule.inverse_mix_word.Goals as goal

pub returns : goal.returns
returns c =
    let a : inverse_sbox c.substitute.result ≡ c.byte0.result = ap inverse_sbox c.substitute.ensures ∙ (inverse_of_sbox _ (search rules)).1 in
    let b : inverse_sbox c.substitute-2.result ≡ c.byte1.result = ap inverse_sbox c.substitute-2.ensures ∙ (inverse_of_sbox _ (search rules)).1 in
    let d : inverse_sbox c.substitute-3.result ≡ c.byte2.result = ap inverse_sbox c.substitute-3.ensures ∙ (inverse_of_sbox _ (search rules)).1 in
    let e : inverse_sbox c.substitute-4.result ≡ c.byte3.result = ap inverse_sbox c.substitute-4.ensures ∙ (inverse_of_sbox _ (search rules)).1 in
    four_bytes _ _ _ _
    (rw (a, c.byte0.ensures) at c.inverse_table0.ensures) (rw (b, c.byte1.ensures) at c.inverse_table1.ensures)
    (rw (d, c.byte2.ensures) at c.inverse_table2.ensures) (rw (e, c.byte3.ensures) at c.inverse_table3.ensures)
