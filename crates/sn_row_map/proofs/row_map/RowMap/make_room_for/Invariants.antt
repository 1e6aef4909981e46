use Rattle.std.proofs.Common.{take, All}
use Rattle.sn_rows.specs.Table.{Spares}
use Rattle.sn_rows.specs.declared.key.Key.{Key}
use Rattle.sn_row_map.specs.RowMaps.{FitsIn, SameRows, StaysSwept}
use Rattle.sn_row_map.proofs.row_map.RowMap.make_room_for.Given as goal

abbrev pub invariant-changes : goal.invariant-changes
invariant-changes l = record {
  rows : SameRows l.fn.self l.self;
  room : All (FitsIn l.self) (take l.change-index l.changes);
  others : (key : Key) → Spares key l.changes → StaysSwept l.fn.self l.self key;
}
