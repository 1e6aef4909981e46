use Rattle.std.proofs.Common.{subst}
use Rattle.sn_link.specs.Deliveries.{Holds, Reaches, Standing, failed, serves}
use Rattle.sn_link.specs.declared.delivery.Held.{Held}
use Rattle.sn_link.specs.declared.delivery.Held.TheVariants.{Open}
use Rattle.sn_link.proofs.delivery.delivered.Goals as goal

pub returns-in-Open-clause-reaches : goal.returns-in-Open-clause-reaches
returns-in-Open-clause-reaches c = λ was holds. reaches was (subst (λ (h : Held). Holds h was) c.in-Open.is holds)
  where
    reaches : (was : Standing) → Holds (Open c.in-Open.server) was
        → (next : Standing) × Holds c.served.result.0 next × Reaches c.args.now was c.args.request.now next c.served.result.1
    reaches (serves kept) stands = c.served.ensures.delivers kept stands
    reaches (failed kept made) none = absurd none
