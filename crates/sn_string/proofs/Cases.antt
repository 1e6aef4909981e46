-- Facts where there is no value.
use Rattle.std.proofs.Common.{Option, Some, None}
use Rattle.std.specs.Prelude.{IfNone}

-- a weaker one
pub IfNone-weaker : {X : Type 0} (o : Option X) (P Q : Type 0) → (P → Q) → IfNone o P → IfNone o Q
IfNone-weaker None P Q f h = f h
IfNone-weaker (Some x) P Q f h = tt

-- one that holds anyway
pub IfNone-given : {X : Type 0} (o : Option X) (P : Type 0) → P → IfNone o P
IfNone-given None P h = h
IfNone-given (Some x) P h = tt
