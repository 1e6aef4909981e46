use Rattle.std.proofs.Common.{subst}
use Rattle.sn_items.specs.declared.sealed.Sealed.{Sealed}
use Rattle.sn_sets.specs.Sets.{OpensNowhere}
use Rattle.sn_drafts.proofs.lines.length_of.Goals as goal

pub returns-clause-none : goal.returns-clause-none
returns-clause-none c =
    let none : OpensNowhere c.args.sets.now c.args.uuid c.in_ok-sealed.sealed = rw c.in-None.is at c.in_ok-text.ensures.none in
    subst (λ (s : Sealed). OpensNowhere c.args.sets.now c.args.uuid s) c.in_ok-sealed.ensures none
