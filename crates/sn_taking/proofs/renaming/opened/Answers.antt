use Rattle.std.proofs.Common.{IfNone, IfOk, subst}
use Rattle.sn_items.specs.declared.sealed.Sealed.{Sealed}
use Rattle.sn_sets.specs.Sets.{OpensNowhere}
use Rattle.sn_taking.proofs.renaming.opened.Goals as goal

pub returns-clause-none : goal.returns-clause-none
returns-clause-none c =
    subst (λ (s : Sealed). IfOk c.open.result (λ found. IfNone found (OpensNowhere c.args.sets.now c.args.uuid s))) c.in_ok-sealed.ensures c.open.ensures.none
