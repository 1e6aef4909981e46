use Rattle.std.proofs.Common.{◌≡◌, take, map}
use Rattle.sn_rows.specs.Table.{key_of}
use Rattle.sn_row_map.proofs.row_map.keys_of.Given as goal

abbrev pub invariant-changes : goal.invariant-changes
invariant-changes l = l.keys.items ≡ map key_of (take l.change-index l.changes)
