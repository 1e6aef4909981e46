use Rattle.std.proofs.Common.{take, All}
use Rattle.sn_rows.specs.declared.key.Key.{Key}
use Rattle.sn_row_map.specs.RowMaps.{IsSwept, SameRows, StaysSwept}
use Rattle.sn_row_map.proofs.row_map.RowMap.sweep.Given as goal

abbrev pub invariant-swept : goal.invariant-swept
invariant-swept l = record {
  rows : SameRows l.fn.self l.self;
  swept : All (IsSwept l.self) (take l.key-index l.keys);
  still : (key : Key) → StaysSwept l.fn.self l.self key;
}
