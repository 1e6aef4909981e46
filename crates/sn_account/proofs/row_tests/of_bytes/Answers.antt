use Rattle.std.proofs.Common.{rules}
use Rattle.uuid.proofs.TextLemmas.{all_fit}
use Rattle.sn_account.proofs.row_tests.of_bytes.Goals as goal

pub returns : goal.returns
returns c = (search rules, all_fit _ (λ k _. c.fits-bytes k))
