use Rattle.std.proofs.Common.{◌≡◌, map, take}
use Rattle.sn_disk.specs.Record.{back_of}
use Rattle.sn_disk.proofs.history.copied_undos.Given as goal

abbrev pub invariant-loop-undo : goal.invariant-loop-undo
invariant-loop-undo l = map back_of l.copies.items ≡ map back_of (take l.undo-index l.undos)
