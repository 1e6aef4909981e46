use Rattle.sn_joining.proofs.AccountLemmas.{owner_fits}
use Rattle.sn_joining.proofs.accounts.first_owner.Goals as goal

pub unreachable-requires : goal.unreachable-requires
unreachable-requires c =
    let some = c.in_default.ensures.within.1 (owner_fits c.args.identifier c.args.account.token c.fixed-none.result c.fixed.result c.requires.identifier c.requires.token
    c.fixed-none.ensures c.fixed.ensures) in
    absurd cc
