-- Whole lists of moves.
use Rattle.std.specs.Prelude.{ℕ, ◌+◌, List, [], ◌∷◌, Option, Some, None, IsTrue, if◌then◌else◌}
use Rattle.sn_laws.specs.Lookups.{empty}
use Rattle.sn_laws.specs.Moves.{allows, after}
use Rattle.sn_laws.specs.declared.ideal.Ideal.{Ideal}
use Rattle.sn_laws.specs.declared.moves.Move.{Move}

-- the state after a move that is allowed
abbrev pub step_of : Ideal → Move → Option Ideal
step_of s m = if allows s m then Some (after s m) else None

-- the state after moves
abbrev pub end_from : Ideal → List Move → Ideal
end_from s [] = s
end_from s (m ∷ ms) = end_from (after s m) ms

abbrev pub end : List Move → Ideal
end ms = end_from empty ms

-- each move is allowed where it is made
abbrev pub LegalFrom : Ideal → List Move → Type 0
LegalFrom s [] = Unit {0}
LegalFrom s (m ∷ ms) = IsTrue (allows s m) × LegalFrom (after s m) ms

abbrev pub Legal : List Move → Type 0
Legal ms = LegalFrom empty ms

-- the least place, counted from this one, of a move that is not allowed where it is made
abbrev pub first_illegal_from : ℕ → Ideal → List Move → Option ℕ
first_illegal_from place s [] = None
first_illegal_from place s (m ∷ ms) = if allows s m then first_illegal_from (place + 1) (after s m) ms else Some place

abbrev pub first_illegal : List Move → Option ℕ
first_illegal ms = first_illegal_from 0 empty ms
