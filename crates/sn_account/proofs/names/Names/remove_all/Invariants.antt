use Rattle.sn_account.specs.Names.{ListsRows}
use Rattle.sn_account.proofs.names.Names.remove_all.Given as goal

abbrev pub invariant-changes : goal.invariant-changes
invariant-changes l = ListsRows l.fn.self l.rows → ListsRows l.self l.rows
