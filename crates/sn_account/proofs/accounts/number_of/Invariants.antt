use Rattle.sn_account.proofs.NamesLemmas.{NoneBefore}
use Rattle.sn_account.proofs.accounts.number_of.Given as goal

abbrev pub invariant-accounts : goal.invariant-accounts
invariant-accounts l = NoneBefore l.state l.identifier l.number-items l.number-index
