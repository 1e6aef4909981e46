use Rattle.std.proofs.lemmas.Result.{IfOk-weaker}
use Rattle.sn_sync.specs.Requests.{route_of}
use Rattle.sn_exchange.proofs.AskLemmas.{asked_failed, asked_granted, fits_as}
use Rattle.sn_exchange.proofs.asking.ask.Goals as goal

pub returns-in-Ok-clause-asked : goal.returns-in-Ok-clause-asked
returns-in-Ok-clause-asked g c =
    asked_granted (g.L.Link.asks c.args.link.now c.hear.new.link) (g.L.Link.aimed c.args.link.now) c.args.request.now c.in-Ok.answer c.granted.result
    c.in-Ok.ensures.heard c.granted.ensures.ok c.granted.ensures.err

pub returns-in-Ok-clause-fits : goal.returns-in-Ok-clause-fits
returns-in-Ok-clause-fits g c =
    IfOk-weaker c.granted.result _ _ (λ given is. fits_as (route_of c.args.request.now) c.in-Ok.answer given is.0 (c.in-Ok.ensures.fits is.1))
    c.granted.ensures.ok

pub returns-in-Ok-clause-link_fault : goal.returns-in-Ok-clause-link_fault
returns-in-Ok-clause-link_fault g c = λ is. absurd (c.granted.ensures.link is)

pub returns-in-Err-clause-asked : goal.returns-in-Err-clause-asked
returns-in-Err-clause-asked g c =
    asked_failed (g.L.Link.asks c.args.link.now c.hear.new.link) (g.L.Link.aimed c.args.link.now) c.args.request.now c.in-Err.why c.in-Err.ensures.heard
