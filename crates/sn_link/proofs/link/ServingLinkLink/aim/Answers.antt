use Rattle.std.proofs.Common.{refl, inl}
use Rattle.sn_link.specs.Holdings.{stays_on}
use Rattle.sn_link.specs.Links.{asking}
use Rattle.sn_link.proofs.link.ServingLinkLink.aim.Goals as goal

pub returns-in_err-self-clause-asks : goal.returns-in_err-self-clause-asks
returns-in_err-self-clause-asks c = asking.none _

pub returns-clause-asks : goal.returns-clause-asks
returns-clause-asks c = record { now_is = refl; losses_are = refl; goes_on = stays_on c.args.self.now.keeper; served = λ was holds. (was, holds, (refl, refl), inl refl) }
