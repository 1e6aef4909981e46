use Rattle.std.proofs.Common.{List, ℕ, ap, inl, inr}
use Rattle.sn_device.specs.declared.error.ClientError.TheVariants as refusal
use Rattle.sn_joining.proofs.registering.registration_refusal.Goals as goal

pub returns-in-Ok-clause-some : goal.returns-in-Ok-clause-some
returns-in-Ok-clause-some g c =
    inr (inl (c.in-Some.owner.now, c.in-Some.ensures.some, ap (λ (i : List ℕ). refusal.HasAccount i) c.in-Ok.ensures))
