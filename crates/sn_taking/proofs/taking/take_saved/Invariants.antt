use Rattle.std.proofs.Common.{map, take}
use Rattle.sn_row_map.specs.RowMaps.{row_in}
use Rattle.sn_sets.specs.Seals.{IsLater}
use Rattle.sn_taking.specs.Taken.{so_far}
use Rattle.sn_device.specs.Taking.{TakesAll, is_saved}
use Rattle.sn_taking.proofs.taking.take_saved.Given as goal

-- What is told so far is taken.
abbrev pub invariant-saved : goal.invariant-saved
invariant-saved l = record {
  takes : TakesAll l.sets l.saved (so_far (row_in l.rows) l.fn.taken l.fn.words) (map is_saved (take l.item-index l.saved)) (so_far (row_in l.rows) l.taken l.words);
  later : IsLater l.fn.words l.words;
}
