use Rattle.std.proofs.Common.{◌+◌}
use Rattle.sn_account.specs.States.{state_rows}
use Rattle.sn_account.specs.Walks.{HasText}
use Rattle.sn_account.proofs.NonceWalk.{InNonces}
use Rattle.sn_account.proofs.apart.has_generations.Given as goal

abbrev pub invariant-generations : goal.invariant-generations
invariant-generations l = InNonces (state_rows l.state) l.number (HasText l.seen) (l.earlier + 1)
