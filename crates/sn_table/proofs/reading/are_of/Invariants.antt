use Rattle.std.proofs.Common.{take, All}
use Rattle.sn_table.specs.Batches.{IsOf}
use Rattle.sn_table.proofs.reading.are_of.Given as goal

abbrev pub invariant-changes : goal.invariant-changes
invariant-changes l = All (IsOf l.owner) (take l.change-index l.changes)
