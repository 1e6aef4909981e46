use Rattle.sn_cbc.proofs.PaddingLemmas.{padded_injective}
use Rattle.sn_cbc.proofs.UniqueLemmas.{one_text, padded_bytes}
use Rattle.sn_cbc.specs.Cbc.{padded}
use Rattle.sn_cbc.proofs.laws.one_plain.Goals as goal

pub returns : goal.returns
returns c key iv plain other bytes iv_long iv_small bytes_small plain_small other_small first second =
    padded_injective plain other (one_text key iv (padded plain) (padded other) bytes iv_long iv_small bytes_small
    (padded_bytes plain plain_small) (padded_bytes other other_small) first second)
