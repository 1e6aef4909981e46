use Rattle.std.proofs.Common.{◌≡◌, take}
use Rattle.std.specs.List.{flat_map}
use Rattle.sn_row_map.specs.RowMaps.{row_in}
use Rattle.sn_moves.specs.Commits.{change_moved}
use Rattle.sn_moves.proofs.committing.items_moved.Given as goal

abbrev pub invariant-changes : goal.invariant-changes
invariant-changes l = l.moves ≡ flat_map (change_moved (row_in l.rows) l.name l.done) (take l.change-index l.changes)
