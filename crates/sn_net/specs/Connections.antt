-- What comes at a port.
use Rattle.std.specs.Prelude.{◌++◌, List, ℕ, []}
use Rattle.std.specs.declared.option.Option.{Option}

-- the bytes that a connection's source has left, and those that its sink holds, where they tell them, and how often a read
-- and a write have failed
pub record Ends : Type 0 where
  pub left : Option (List ℕ)
  pub held : Option (List ℕ)
  pub reads : ℕ
  pub writes : ℕ

-- a connection was accepted with these ends, or these were given back
pub data Event : Type 0 where
  accepted : Ends → Event
  ended : Ends → Event

-- connections come and end one after another
pub record Going (P : Type 0) (goes : P → P → List Event → Type 0) : Type 0 where
  pub none : (port : P) → goes port port []
  pub more : (a b c : P) (xs ys : List Event) → goes a b xs → goes b c ys → goes a c (xs ++ ys)
