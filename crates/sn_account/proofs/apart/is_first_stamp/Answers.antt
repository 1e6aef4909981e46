use Rattle.std.proofs.Common.{◌≡◌, cond, eqb, Some, rules}
use Rattle.std.specs.BTreeMap.{get}
use Rattle.std.specs.Ordering.{nat_cmp}
use Rattle.sn_account.proofs.MetLemmas.{stamp_added}
use Rattle.sn_account.proofs.apart.is_first_stamp.Goals as goal

pub returns-in-Ok-clause-seen : goal.returns-in-Ok-clause-seen
returns-in-Ok-clause-seen c = λ other.
    let now : get nat_cmp c.insert.new.self other ≡ cond (eqb c.args.stamp other) (Some tt) (get nat_cmp c.args.seen.now other) = search rules in
    stamp_added c.args.stamp other (get nat_cmp c.args.seen.now other) (get nat_cmp c.insert.new.self other) now
