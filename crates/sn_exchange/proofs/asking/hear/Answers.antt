use Rattle.std.proofs.Common.{IfOk, subst}
use Rattle.sn_sync.specs.Fits.{FitsAnswer}
use Rattle.sn_sync.specs.declared.request.Route.{Route}
use Rattle.sn_exchange.specs.Asked.{IsGranted}
use Rattle.sn_exchange.proofs.asking.hear.Goals as goal

pub returns-clause-fits : goal.returns-clause-fits
returns-clause-fits g c =
    subst (λ (on : Route). IfOk c.reply.result (λ given. IsGranted given → FitsAnswer on 200 given)) c.in-Ok.ensures.route c.reply.ensures.fits
