use Rattle.sn_account.proofs.PutsLemmas.{PutRows}
use Rattle.sn_account.proofs.marking.puts_of.Given as goal

abbrev pub invariant-rows : goal.invariant-rows
invariant-rows l = PutRows l.changes.items l.yielded
