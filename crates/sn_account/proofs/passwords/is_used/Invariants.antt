use Rattle.std.proofs.Common.{◌≤◌, ◌<◌, ℕ}
use Rattle.sn_account.specs.States.{state_rows}
use Rattle.sn_account.proofs.PasswordLemmas.{HadNonce}
use Rattle.sn_account.proofs.passwords.is_used.Given as goal

abbrev pub invariant-generations : goal.invariant-generations
invariant-generations l = (g : ℕ) → 1 ≤ g → g < l.generation → ¬ (HadNonce (state_rows l.state) l.number g l.nonce)
