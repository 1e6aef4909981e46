use Rattle.std.proofs.Common.{◌∙◌, refl, ap}
use Rattle.std.proofs.lemmas.Nat.{le_bytes_4}
use Rattle.std.specs.Int.{w32, from_le_bytes, to_be_bytes}
use Rattle.sn_aes.proofs.InverseLemmas.{word_small}
use Rattle.sn_aes.proofs.bytes.bytes_of_word.Goals as goal

pub returns : goal.returns
returns c =
    c.to_le_bytes.ensures
    ∙ le_bytes_4 (to_be_bytes w32 c.args.w) c.from_le_bytes.result refl (word_small c.args.w)
    (c.from_le_bytes.ensures ∙ ap (from_le_bytes w32) c.to_be_bytes.ensures)
