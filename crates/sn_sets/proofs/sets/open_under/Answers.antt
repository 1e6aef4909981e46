use Rattle.sn_sets.proofs.SetLemmas.{none_under}
use Rattle.sn_sets.proofs.sets.open_under.Goals as goal

pub returns-in-Err-clause-none : goal.returns-in-Err-clause-none
returns-in-Err-clause-none c =
    none_under c.args.sealed.now c.args.uuid c.args.set.now _ _ c.opens_none.result c.in-Err.ensures.err c.opens_none.ensures
