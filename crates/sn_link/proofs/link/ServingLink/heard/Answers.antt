use Rattle.std.proofs.Common.{◌∙◌, ap, inr, sym, subst, Err}
use Rattle.sn_net.specs.declared.link.AskError.{AskError}
use Rattle.sn_link.specs.Deliveries.{Reaches}
use Rattle.sn_link.specs.Links.{HasReason, link_held, link_now}
use Rattle.sn_link.specs.declared.losses.Lost.TheVariants.{Nothing}
use Rattle.sn_link.proofs.Asking.{Answered, does_by, failed_answered, is_failed, none_befalls}
use Rattle.sn_link.proofs.link.ServingLink.heard.Goals as goal

pub returns-in-Err-Failed-clause-does : goal.returns-in-Err-Failed-clause-does
returns-in-Err-Failed-clause-does c =
    does_by Nothing c.args.self.now.host c.args.self.now c.fail.new.self (link_held c.deliver.new.self) c.args.request.now _ c.deliver.result
    (c.fail.ensures.now ∙ c.deliver.ensures.now) (c.fail.ensures.losses ∙ c.deliver.ensures.losses)
    (c.fail.ensures.number ∙ c.deliver.ensures.number) (inr (ap (λ (e : AskError). Err e) c.fail.ensures.is))
    c.deliver.ensures.goes_on c.fail.ensures.held c.deliver.ensures.reaches
    (λ was next reached. (
      none_befalls _ was _ _ next _ reached,
      subst (λ (e : AskError). HasReason Nothing (link_now c.args.self.now) was c.args.request.now next (Err e)) (sym c.fail.ensures.is)
          (is_failed _ was c.args.request.now next (subst (λ (a : Answered). Reaches (link_now c.args.self.now) was c.args.request.now next a) (failed_answered _ _ c.in-Err-Failed.is c.in-Err-Failed.field-0-is) reached)),
    ))
