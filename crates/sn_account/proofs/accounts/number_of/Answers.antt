use Rattle.std.proofs.Common.{arith}
use Rattle.sn_account.proofs.NamesLemmas.{none_so_far, unknown_listed}
use Rattle.sn_account.proofs.accounts.number_of.Goals as goal

pub returns-then-is_named-clause-some : goal.returns-then-is_named-clause-some
returns-then-is_named-clause-some c = c.is_named.ensures.0 c.if-is_named.true

pub accounts-preserved : goal.accounts-preserved
accounts-preserved c =
    none_so_far c.args.state.now c.args.identifier.now c.numbers-number-items.result.now c.accounts.number-index c.accounts.invariant
    (λ named. let holds = c.is_named.ensures.1 named in let not = c.if-is_named.false in cc)

pub returns-clause-none : goal.returns-clause-none
returns-clause-none c =
    unknown_listed c.args.state.now c.args.identifier.now c.numbers-number-items.result.now c.accounts.number-index c.requires
    c.numbers-number-items.ensures (omega arith) c.accounts.invariant
