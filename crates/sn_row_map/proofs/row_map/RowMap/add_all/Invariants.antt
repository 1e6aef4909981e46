use Rattle.std.proofs.Common.{◌≡◌}
use Rattle.sn_rows.specs.Table.{row_after}
use Rattle.sn_rows.specs.declared.key.Key.{Key}
use Rattle.sn_row_map.specs.RowMaps.{IsTidy, row_in}
use Rattle.sn_row_map.proofs.row_map.RowMap.add_all.Given as goal

abbrev pub invariant-changes : goal.invariant-changes
invariant-changes l = record {
  rows : (key : Key) → row_in l.self key ≡ row_after (row_in l.fn.self key) key l.yielded;
  tidy : IsTidy l.fn.self → IsTidy l.self;
}
