use Rattle.std.proofs.Common.{◌≡◌, take, [], ◌∷◌, ◌++◌}
use Rattle.sn_laws.specs.Lookups.{is_account}
use Rattle.sn_laws.specs.Moves.{changed_where}
use Rattle.sn_laws.proofs.rekeyed.with_another_set.Given as goal

abbrev pub invariant-loop-account : goal.invariant-loop-account
invariant-loop-account l = l.next ≡ changed_where (is_account l.identifier) (λ a. record a { sets = a.sets ++ l.set ∷ [] }) (take l.account-index l.accounts)
