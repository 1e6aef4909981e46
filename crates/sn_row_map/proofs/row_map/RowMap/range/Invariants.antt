use Rattle.std.proofs.Common.{◌≡◌, map}
use Rattle.std.specs.List.{flat_map}
use Rattle.std.specs.Map.Iter.{deref_pair}
use Rattle.sn_row_map.specs.Ranges.{row_of_kind}
use Rattle.sn_row_map.proofs.row_map.RowMap.range.Given as goal

abbrev pub invariant-entries : goal.invariant-entries
invariant-entries l = l.rows ≡ flat_map (row_of_kind l.kind) (map deref_pair l.yielded)
