use Rattle.std.proofs.Common.{◌∙◌, None, Err, ap, sym, refl}
use Rattle.sn_net.specs.declared.link.AskError.{AskError}
use Rattle.sn_link.proofs.Asking.{asks_does, asks_lost, exchange, lost_does, reason_does}
use Rattle.sn_link.proofs.link.ServingLinkLink.ask.Goals as goal

pub returns-in-Request-clause-asks : goal.returns-in-Request-clause-asks
returns-in-Request-clause-asks c =
    asks_lost c.args.self.now c.fail.new.self (exchange c.args.self.now.host c.args.request.now None) c.at-lost.result
    (record { now_is = c.fail.ensures.now; losses_are = c.fail.ensures.losses; number_is = c.fail.ensures.number ∙ c.saturating_add-self.ensures })
    c.in-Request.is c.at-lost.ensures c.fail.ensures.held refl

pub returns-in-Request-clause-does : goal.returns-in-Request-clause-does
returns-in-Request-clause-does c =
    lost_does c.args.self.now c.fail.new.self c.at-lost.result c.args.self.now.host c.args.request.now c.in-Request.is c.at-lost.ensures c.fail.ensures.held _
    (ap (λ (e : AskError). Err e) c.fail.ensures.is)

pub returns-in-Reply-clause-asks : goal.returns-in-Reply-clause-asks
returns-in-Reply-clause-asks c =
    asks_does c.args.self.now c.unheard.new.self _ _ c.args.self.now.host c.args.request.now c.unheard.result (sym c.in-Reply.is ∙ c.at-lost.ensures) c.saturating_add-self.ensures
    c.unheard.ensures.does

pub returns-in-Reply-clause-does : goal.returns-in-Reply-clause-does
returns-in-Reply-clause-does c =
    reason_does c.args.self.now c.unheard.new.self _ _ c.args.self.now.host c.args.request.now c.unheard.result (sym c.in-Reply.is ∙ c.at-lost.ensures)
    c.unheard.ensures.does

pub returns-in-Nothing-clause-asks : goal.returns-in-Nothing-clause-asks
returns-in-Nothing-clause-asks c =
    asks_does c.args.self.now c.heard.new.self _ _ c.args.self.now.host c.args.request.now c.heard.result (sym c.in-Nothing.is ∙ c.at-lost.ensures) c.saturating_add-self.ensures
    c.heard.ensures.does

pub returns-in-Nothing-clause-does : goal.returns-in-Nothing-clause-does
returns-in-Nothing-clause-does c =
    reason_does c.args.self.now c.heard.new.self _ _ c.args.self.now.host c.args.request.now c.heard.result (sym c.in-Nothing.is ∙ c.at-lost.ensures)
    c.heard.ensures.does
