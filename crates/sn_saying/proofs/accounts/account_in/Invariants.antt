-- No account so far has the identifier.
use Rattle.std.proofs.Common.{length}
use Rattle.sn_row_map.specs.Steps.{lent}
use Rattle.sn_rows.specs.declared.kind.RowKind.TheVariants as kind
use Rattle.sn_saying.specs.Adopted.{IsAccountAt}
use Rattle.sn_saying.proofs.WalkLemmas.{NonePassed, ahead}
use Rattle.sn_saying.proofs.accounts.account_in.Given as goal

abbrev pub invariant-accounts : goal.invariant-accounts
invariant-accounts l = NonePassed (IsAccountAt l.identifier) l.server kind.Account (lent l.found)

abbrev pub decreases-accounts : goal.decreases-accounts
decreases-accounts l = length (ahead l.server (lent l.found))
