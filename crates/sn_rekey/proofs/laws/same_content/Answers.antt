use Rattle.sn_rekey.proofs.RowLemmas.{same_content}
use Rattle.sn_rekey.proofs.laws.same_content.Goals as goal

pub returns : goal.returns
returns c = same_content
