use Rattle.sn_items.proofs.ItemLawLemmas.{one_content}
use Rattle.sn_items.proofs.laws.one_content.Goals as goal

pub returns : goal.returns
returns c = one_content
