use Rattle.std.proofs.Common.{arith}
use Rattle.std.proofs.lemmas.Map.Text.{text_keys}
use Rattle.sn_disk.specs.MemShelf.{shelf_slot}
use Rattle.sn_disk.proofs.mem_shelf.MemShelf.put.Goals as goal

pub returns-in-Ok-clause-others : goal.returns-in-Ok-clause-others
unfolding shelf_slot
returns-in-Ok-clause-others c = grind (arith, text_keys)
