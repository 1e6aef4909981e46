use Rattle.sn_account.proofs.SyncLemmas.{none_found, some_found}
use Rattle.sn_account.proofs.sync.taken_of.Goals as goal

pub returns-clause-some : goal.returns-clause-some
returns-clause-some c = λ store last.
    some_found c.take_all.result _ _ (λ taken takes. (c.in_ok-present.present, c.in_ok-present.ensures, takes)) (c.take_all.ensures.some store last)

pub returns-clause-none : goal.returns-clause-none
returns-clause-none c = λ store last.
    none_found c.take_all.result _ _ (λ runs. (c.in_ok-present.present, c.in_ok-present.ensures, runs)) (c.take_all.ensures.none store last)
