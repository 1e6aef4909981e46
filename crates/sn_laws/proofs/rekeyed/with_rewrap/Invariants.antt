use Rattle.std.proofs.Common.{◌≡◌, take, ◌++◌, length}
use Rattle.sn_laws.specs.Lookups.{is_account, last_of}
use Rattle.sn_laws.specs.Moves.{again, changed_where}
use Rattle.sn_laws.proofs.rekeyed.with_rewrap.Given as goal

abbrev pub invariant-loop-other : goal.invariant-loop-other
invariant-loop-other l =
    l.next ≡ changed_where (is_account l.account.identifier)
    (λ b. record b { versions = b.versions ++ again l.stamp (length l.account.sets) (last_of l.uuid l.account.versions) })
    (take l.other-index l.accounts)
