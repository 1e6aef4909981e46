use Rattle.std.proofs.Common.{◌<◌, ◌≤◌, ℕ}
use Rattle.sn_account.specs.States.{state_rows}
use Rattle.sn_account.specs.Unsound.{HasSoundAccount}
use Rattle.sn_account.proofs.soundness.are_there.Given as goal

abbrev pub invariant-accounts : goal.invariant-accounts
invariant-accounts l = (n : ℕ) → 1 ≤ n → n < l.number → HasSoundAccount (state_rows l.state) n
