-- Facts where there is a value.
use Rattle.std.proofs.Common.{Option, Some, None, IfSome}

pub IfSome-weaker : {T : Type 0} (found : Option T) (P Q : T → Type 0) → ((x : T) → P x → Q x) → IfSome found P → IfSome found Q
IfSome-weaker None P Q f h = tt
IfSome-weaker (Some x) P Q f h = f x h
