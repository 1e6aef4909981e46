use Rattle.std.proofs.Common.{◌≡◌, take}
use Rattle.sn_laws.proofs.clones.copies.Given as goal

abbrev pub invariant-loop-value : goal.invariant-loop-value
invariant-loop-value g l = l.copy ≡ take l.value-index l.values
