use Rattle.std.proofs.Common.{arith}
use Rattle.std.proofs.lemmas.Map.Text.{text_keys}
use Rattle.sn_disk.specs.MemShelf.{shelf_slot}
use Rattle.sn_disk.proofs.mem_shelf.MemShelf.take_out.Goals as goal

pub returns-in-Some-clause-others : goal.returns-in-Some-clause-others
unfolding shelf_slot
returns-in-Some-clause-others c = grind (arith, text_keys)
