use Rattle.std.proofs.Common.{◌∙◌, sym, ap}
use Rattle.sn_aes.specs.Cipher.{aes256}
use Rattle.sn_aes.proofs.block_cipher.Aes256Dec.decrypt.Goals as goal

pub returns : goal.returns
returns c =
    record {
      block = ap (aes256 c.args.self.now) c.block_of_columns.ensures ∙ c.decrypt_columns.ensures.block ∙ c.columns_of_block.ensures;
      only = λ b is_block e. c.decrypt_columns.ensures.only b is_block (e ∙ sym c.columns_of_block.ensures) ∙ sym c.block_of_columns.ensures;
    }
