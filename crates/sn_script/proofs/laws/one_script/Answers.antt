use Rattle.sn_script.specs.Scripts.{lines_of}
use Rattle.sn_script.proofs.ScriptFacts.{one_list}
use Rattle.sn_script.proofs.laws.one_script.Goals as goal

pub returns : goal.returns
returns c text one other a b = one_list 0 (lines_of text) one other a b
