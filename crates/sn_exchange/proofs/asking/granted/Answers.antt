use Rattle.std.proofs.Common.{refl, subst, sym}
use Rattle.sn_sync.specs.declared.answer.Answer.{Answer}
use Rattle.sn_device.specs.Asking.{Fails, said}
use Rattle.sn_device.specs.declared.error.ClientError.TheVariants as refusal
use Rattle.sn_exchange.proofs.AskLemmas.{granted_else}
use Rattle.sn_exchange.proofs.asking.granted.Goals as goal

pub returns-in-Refused-clause-err : goal.returns-in-Refused-clause-err
returns-in-Refused-clause-err c =
    subst (λ (a : Answer). Fails (said a) (refusal.Refused c.in-Refused.status c.in-Refused.tag)) (sym c.in-Refused.is) refl

pub returns-in_default-clause-ok : goal.returns-in_default-clause-ok
returns-in_default-clause-ok c = (refl, granted_else _ c.in_default.not-Refused)
