use Rattle.std.proofs.Common.{◌≡◌, take}
use Rattle.std.specs.Prelude.{◌==◌}
use Rattle.sn_laws.specs.Moves.{without}
use Rattle.sn_laws.proofs.rekeyed.without_set.Given as goal

abbrev pub invariant-loop-other : goal.invariant-loop-other
invariant-loop-other l = l.next ≡ without (λ m. m == l.number) (take l.other-index l.held)
