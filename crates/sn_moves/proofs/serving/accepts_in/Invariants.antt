use Rattle.std.proofs.Common.{◌≡◌, take}
use Rattle.sn_row_map.specs.RowMaps.{row_in}
use Rattle.sn_world.specs.Plain.{accepts_in}
use Rattle.sn_moves.proofs.serving.accepts_in.Given as goal

abbrev pub invariant-changes : goal.invariant-changes
invariant-changes l = l.moves ≡ accepts_in (row_in l.rows) l.name (take l.change-index l.changes)
