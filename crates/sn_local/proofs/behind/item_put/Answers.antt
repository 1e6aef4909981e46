use Rattle.sn_local.proofs.behind.item_put.Goals as goal

pub returns-in_default-clause-none : goal.returns-in_default-clause-none
returns-in_default-clause-none c = λ number put local has. c.in_default.ensures.none number put
