-- What was added to a store on a disk in memory.
use Rattle.std.specs.Prelude.{◌≡◌, List, ◌++◌}
use Rattle.sn_disk.specs.declared.memory.MemDisk.{MemDisk}
use Rattle.sn_journal.specs.declared.owner.Owner.{Owner}
use Rattle.sn_rows.specs.declared.change.Change.{Change}
use Rattle.sn_tail.specs.Marks.{StoodAt, mark_of}
use Rattle.sn_tail.specs.Places.{place_behind}
use Rattle.sn_tail.specs.declared.tails.Tail.{Tail}

-- now the disk stands for the earlier batches and for those of the tail behind them, and the gate is the one behind all
pub record IsAdded (disk : MemDisk) (owner : Owner) (before : List (List Change)) (tail : Tail) : Type 0 where
  pub stands : StoodAt disk (mark_of disk) owner (before ++ tail.batches)
  pub gate_is : tail.gate ≡ place_behind owner (before ++ tail.batches)
