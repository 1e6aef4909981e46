use Rattle.sn_table.proofs.LawLemmas.{each_is_whole_or_nothing}
use Rattle.sn_table.proofs.laws.each_is_whole_or_nothing.Goals as goal

pub returns : goal.returns
returns c = each_is_whole_or_nothing
