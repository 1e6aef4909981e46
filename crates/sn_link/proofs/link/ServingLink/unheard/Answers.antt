use Rattle.std.proofs.Common.{◌∙◌, ap, Err, inl, inr, refl, sym, subst}
use Rattle.sn_net.specs.declared.link.AskError.{AskError}
use Rattle.sn_link.specs.Deliveries.{Reaches}
use Rattle.sn_link.specs.Links.{HasReason, link_held, link_now}
use Rattle.sn_link.specs.declared.losses.Lost.TheVariants.{Reply}
use Rattle.sn_link.proofs.Asking.{Answered, does_as, does_by, failed_answered, is_failed, is_given, reply_befalls}
use Rattle.sn_link.proofs.link.ServingLink.unheard.Goals as goal
use Rattle.sn_link.proofs.link.ServingLink.unheard.Goals.{in-Ok, in-Err-Failed, in-Err-Memory}

pub returns-clause-does : goal.returns-clause-does
returns-clause-does c =
    let old = c.args.self.now in
    let request = c.args.bytes.now in
    elim c.match-deliver.branch [
      | in-Ok w ↦ does_as Reply old.host old _ _ request _ _ w.self-is w.result-is (
          does_by Reply old.host old w.fail.new.self (link_held c.deliver.new.self) request (Err w.fail.result) c.deliver.result
          (w.fail.ensures.now ∙ c.deliver.ensures.now) (w.fail.ensures.losses ∙ c.deliver.ensures.losses) (w.fail.ensures.number ∙ c.deliver.ensures.number)
          (inr (ap (λ (e : AskError). Err e) w.fail.ensures.is))
          c.deliver.ensures.goes_on w.fail.ensures.held c.deliver.ensures.reaches
          (λ was next reached. (
            reply_befalls _ was _ _ next _ reached,
            subst (λ (e : AskError). HasReason Reply (link_now old) was request next (Err e)) (sym w.fail.ensures.is)
                (is_given _ was request next w.in-Ok.field-0 (subst (λ (a : Answered). Reaches (link_now old) was request next a) w.in-Ok.is reached)),
          ))
          )
      | in-Err-Failed w ↦ does_as Reply old.host old _ _ request _ _ w.self-is w.result-is (
          does_by Reply old.host old w.fail-in-Err-Failed.new.self (link_held c.deliver.new.self) request (Err w.fail-in-Err-Failed.result) c.deliver.result
          (w.fail-in-Err-Failed.ensures.now ∙ c.deliver.ensures.now) (w.fail-in-Err-Failed.ensures.losses ∙ c.deliver.ensures.losses)
          (w.fail-in-Err-Failed.ensures.number ∙ c.deliver.ensures.number) (inr (ap (λ (e : AskError). Err e) w.fail-in-Err-Failed.ensures.is))
          c.deliver.ensures.goes_on w.fail-in-Err-Failed.ensures.held c.deliver.ensures.reaches
          (λ was next reached. (
            reply_befalls _ was _ _ next _ reached,
            subst (λ (e : AskError). HasReason Reply (link_now old) was request next (Err e)) (sym w.fail-in-Err-Failed.ensures.is)
                (inl (is_failed _ was request next (subst (λ (a : Answered). Reaches (link_now old) was request next a) (failed_answered _ _ w.in-Err-Failed.is w.in-Err-Failed.field-0-is) reached))),
          ))
          )
      | in-Err-Memory w ↦ does_as Reply old.host old _ _ request _ _ w.self-is w.result-is (
          does_by Reply old.host old c.deliver.new.self (link_held c.deliver.new.self) request _ c.deliver.result
          c.deliver.ensures.now c.deliver.ensures.losses c.deliver.ensures.number (inl c.deliver.ensures.faults) c.deliver.ensures.goes_on refl c.deliver.ensures.reaches
          (λ was next reached. (reply_befalls _ was _ _ next _ reached, tt))
          )
    ]
