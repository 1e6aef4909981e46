use Rattle.std.proofs.Common.{◌≡◌, ◌+◌, ◌*◌, ◌≤◌, ◌++◌, ◌∙◌, refl, ap, length, take, drop, rules}
use Rattle.sn_aes.specs.Cipher.{four_words}
use Rattle.sn_cbc.proofs.Chains.{decrypted_more}
use Rattle.sn_cbc.proofs.chain.decrypt.Goals as goal

pub texts-preserved : goal.texts-preserved
texts-preserved c =
    let now = c.texts.text in
    let last = four_words c.texts.last 0 in
    let block = four_words c.columns_of_block-block.result 0 in
    let decrypted = four_words c.decrypt_columns.result 0 in
    let plain = four_words c.xor_columns-plain.result 0 in
    let at = 16 * c.texts.i in
    let high : at + 16 ≤ length now = search rules in
    let same : length c.write_block.new.text ≡ length now = search rules in
    decrypted_more c.args.aes.now c.args.iv.now c.args.text.now now last block decrypted plain c.write_block.new.text c.texts.i
    c.texts.invariant high refl refl refl
    (c.columns_of_block-block.ensures ∙ c.block_at.ensures) c.decrypt_columns.ensures.block c.xor_columns-plain.ensures
    (c.write_block.ensures ∙ ap (λ b. take at now ++ (b ++ drop (at + 16) now)) c.block_of_columns.ensures) same
