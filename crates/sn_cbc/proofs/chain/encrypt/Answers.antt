use Rattle.std.proofs.Common.{◌≡◌, ◌+◌, ◌*◌, ◌≤◌, ◌++◌, ◌∙◌, refl, ap, length, take, drop, rules}
use Rattle.sn_aes.specs.Cipher.{aes256, xor_bytes, four_words}
use Rattle.sn_cbc.proofs.Chains.{encrypted_more}
use Rattle.sn_cbc.proofs.chain.encrypt.Goals as goal

pub texts-preserved : goal.texts-preserved
texts-preserved c =
    let key = c.args.aes.now in
    let now = c.texts.text in
    let last = four_words c.texts.last 0 in
    let next = four_words c.encrypt_columns-next.result 0 in
    let at = 16 * c.texts.i in
    let high : at + 16 ≤ length now = search rules in
    let same : length c.write_block.new.text ≡ length now = search rules in
    encrypted_more key c.args.iv.now c.args.text.now now last next c.write_block.new.text c.texts.i c.texts.invariant high refl
    (c.encrypt_columns-next.ensures ∙ ap (aes256 key)
    (c.xor_columns.ensures ∙ ap (λ b. xor_bytes b last) (c.columns_of_block-block.ensures ∙ c.block_at.ensures)))
    (c.write_block.ensures ∙ ap (λ b. take at now ++ (b ++ drop (at + 16) now)) c.block_of_columns.ensures) same
