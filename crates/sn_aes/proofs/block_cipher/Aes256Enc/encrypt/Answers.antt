use Rattle.std.proofs.Common.{◌∙◌, ap}
use Rattle.sn_aes.specs.Cipher.{aes256}
use Rattle.sn_aes.proofs.block_cipher.Aes256Enc.encrypt.Goals as goal

pub returns : goal.returns
returns c = c.block_of_columns.ensures ∙ c.encrypt_columns.ensures ∙ ap (aes256 c.args.self.now) c.columns_of_block.ensures
