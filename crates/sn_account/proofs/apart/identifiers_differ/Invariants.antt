use Rattle.std.proofs.Common.{ℕ, ◌+◌}
use Rattle.sn_account.specs.Lookups.{Bytes, IsNamed}
use Rattle.sn_account.specs.States.{state_rows}
use Rattle.sn_account.specs.Walks.{HasText}
use Rattle.sn_account.proofs.ApartLemmas.{AreMet}
use Rattle.sn_account.proofs.apart.identifiers_differ.Given as goal

abbrev pub invariant-accounts : goal.invariant-accounts
invariant-accounts l = AreMet (λ (n : ℕ) (t : Bytes). IsNamed (state_rows l.state) t n) 1 (HasText l.seen) (l.earlier + 1)
