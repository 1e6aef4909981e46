use Rattle.sn_items.proofs.ItemLawLemmas.{only_item}
use Rattle.sn_items.proofs.laws.sealed_item_opens.Goals as goal

pub returns : goal.returns
returns c = only_item
