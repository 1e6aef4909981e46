use Rattle.std.proofs.Common.{◌≡◌, take}
use Rattle.std.specs.List.{flat_map}
use Rattle.sn_moves.specs.Foreign.{foreign_of}
use Rattle.sn_moves.proofs.foreign.foreign_among.Given as goal

abbrev pub invariant-conflicts : goal.invariant-conflicts
invariant-conflicts l = l.uuids ≡ flat_map foreign_of (take l.conflict-index l.conflicts)
