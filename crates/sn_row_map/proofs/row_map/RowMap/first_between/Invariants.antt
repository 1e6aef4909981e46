use Rattle.std.proofs.Common.{◌≡◌}
use Rattle.std.specs.BTreeMap.Range.{entries_between}
use Rattle.std.specs.List.{flat_map}
use Rattle.sn_row_map.specs.Keys.{key_cmp}
use Rattle.sn_row_map.specs.Ranges.{row_of_kind}
use Rattle.sn_row_map.proofs.row_map.RowMap.first_between.Given as goal

abbrev pub invariant-entries : goal.invariant-entries
invariant-entries l =
    flat_map (row_of_kind l.kind) (entries_between key_cmp l.fn.start l.fn.end l.self.entries.entries) ≡ flat_map (row_of_kind l.kind) l.key-iterator
