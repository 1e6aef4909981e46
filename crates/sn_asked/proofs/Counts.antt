-- How many requests such a sync makes that is answered.
use Rattle.std.proofs.Common.{◌≡◌, ◌+◌, length, ap, ◌∙◌, arith}
use Rattle.sn_asked.specs.Asked.{AskedCounts}
use Rattle.sn_world.proofs.Reaching.{requests_of}
use Rattle.sn_world.specs.Answering.{requests_in}

pub asked_counts : AskedCounts
asked_counts s name owner present set server rows words acts fates halt first x y =
    let params : requests_in acts ≡ 1 + requests_in first.later = ap requests_in first.acts_are in
    let account : requests_in first.later ≡ 1 + requests_in x.hears.later = ap requests_in x.hears.later_is in
    let adopted : requests_in x.hears.later ≡ requests_in x.later = ap requests_in x.later_is in
    let b = y.behind in
    let row : requests_in x.later ≡ length b.rounds + requests_in b.later = ap requests_in b.acts_are ∙ requests_of b.rounds b.later in
    let none : requests_in b.later ≡ 0 = ap requests_in y.no_more in
    omega arith
