use Rattle.std.proofs.Common.{◌+◌}
use Rattle.sn_account.specs.States.{state_rows}
use Rattle.sn_account.proofs.SoundKinds.{HaveGenerations}
use Rattle.sn_account.proofs.soundness.are_generations_sound.Given as goal

abbrev pub invariant-accounts : goal.invariant-accounts
invariant-accounts l = HaveGenerations (state_rows l.state) (l.earlier + 1)
