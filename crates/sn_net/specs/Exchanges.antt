-- What is asked over a link.
use Rattle.std.specs.Prelude.{◌++◌, List, ℕ, [], Result, Ok, Err, Some, None, Vec}
use Rattle.std.specs.declared.option.Option.{Option}
use Rattle.std.specs.declared.alloc.Global.{Global}

-- a request to a host, and its answer where one came
pub record Exchange : Type 0 where
  pub host : List ℕ
  pub request : List ℕ
  pub answer : Option (List ℕ)

-- the answer that came
abbrev pub answer_of : {E : Type 0} → Result (Vec ℕ Global) E → Option (List ℕ)
answer_of (Ok bytes) = Some bytes.items
answer_of (Err e) = None

-- a link makes exchanges one after another
pub record Asking (L : Type 0) (asks : L → L → List Exchange → Type 0) : Type 0 where
  pub none : (link : L) → asks link link []
  pub more : (a b c : L) (xs ys : List Exchange) → asks a b xs → asks b c ys → asks a c (xs ++ ys)
