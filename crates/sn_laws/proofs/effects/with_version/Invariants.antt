use Rattle.std.proofs.Common.{◌≡◌, take, [], ◌∷◌, ◌++◌}
use Rattle.sn_laws.specs.Lookups.{is_account}
use Rattle.sn_laws.specs.Moves.{changed_where, version_of}
use Rattle.sn_laws.proofs.effects.with_version.Given as goal

abbrev pub invariant-loop-other : goal.invariant-loop-other
invariant-loop-other l = l.next ≡ changed_where (is_account l.account.identifier) (λ b. record b { versions = b.versions ++ version_of l.stamp l.number l.draft ∷ [] }) (take l.other-index l.accounts)
