-- Facts where there is a value, or none.
use Rattle.std.proofs.Common.{Option, Some, None, IfErr, IfNone, IfSome}
use Rattle.std.specs.Option.{ok_or}

pub IfSome-weaker : {T : Type 0} (found : Option T) (P Q : T → Type 0) → ((x : T) → P x → Q x) → IfSome found P → IfSome found Q
IfSome-weaker None P Q f h = tt
IfSome-weaker (Some x) P Q f h = f x h

pub IfNone-weaker : {T : Type 0} (found : Option T) (P Q : Type 0) → (P → Q) → IfNone found P → IfNone found Q
IfNone-weaker None P Q f h = f h
IfNone-weaker (Some x) P Q f h = tt

-- a refusal in the place of nothing
pub IfErr-ok_or : {T E : Type 0} (found : Option T) (e : E) (P : Type 0) → IfNone found P → IfErr (ok_or found e) (λ (refusal : E). P)
IfErr-ok_or None e P h = h
IfErr-ok_or (Some x) e P h = tt
