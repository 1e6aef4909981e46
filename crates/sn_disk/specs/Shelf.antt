-- What stands under a name of a shelf.
use Rattle.std.specs.Prelude.{⊤}

-- no disk, a disk that was taken and is to be given back, or this disk
pub data Slot (D : Type 0) : Type 0 where
  unknown : Slot D
  out : Slot D
  holds : D → Slot D

-- a disk was put there
abbrev pub IsKnown : {D : Type 0} → Slot D → Type 0
IsKnown unknown = ⊥
IsKnown out = ⊤
IsKnown (holds disk) = ⊤

-- no disk stands there: there was none, or it was taken
abbrev pub HoldsNone : {D : Type 0} → Slot D → Type 0
HoldsNone unknown = ⊤
HoldsNone out = ⊤
HoldsNone (holds disk) = ⊥
