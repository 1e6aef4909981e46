use Rattle.sn_cbc.proofs.UniqueLemmas as unique
use Rattle.sn_cbc.specs.Cbc.{padded}
use Rattle.sn_cbc.proofs.laws.one_ciphertext.Goals as goal

pub returns : goal.returns
returns c key iv plain bytes other first second = unique.one_ciphertext key iv (padded plain) bytes other first second
