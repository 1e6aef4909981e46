-- How many requests a change of password makes that is answered.
use Rattle.std.proofs.Common.{◌≡◌, ◌+◌, length, ap, ◌∙◌, arith}
use Rattle.sn_ready.specs.Passwds.{ChangeCounts}
use Rattle.sn_world.proofs.Reaching.{requests_of}
use Rattle.sn_world.specs.Answering.{requests_in}

pub change_counts : ChangeCounts
change_counts password cost server rows words acts fates halt x c =
    let b = x.first.behind in
    let first : requests_in acts ≡ length b.rounds + requests_in b.later = ap requests_in b.acts_are ∙ requests_of b.rounds b.later in
    let change : requests_in b.later ≡ 1 + requests_in c.is_made.makes.change.later = ap requests_in c.is_made.makes.change.acts_are in
    let later : requests_in c.is_made.makes.change.later ≡ requests_in c.is_made.later = ap requests_in c.is_made.later_is in
    let d = c.second.behind in
    let second : requests_in c.is_made.later ≡ length d.rounds + requests_in d.later = ap requests_in d.acts_are ∙ requests_of d.rounds d.later in
    let none : requests_in d.later ≡ 0 = ap requests_in c.no_more in
    omega arith
