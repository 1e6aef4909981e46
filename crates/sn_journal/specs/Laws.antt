-- What holds of every file.
use Rattle.std.specs.Prelude.{◌≡◌, ◌⊎◌, ℕ, List, [], ◌∷◌, ⊤}
use Rattle.std.specs.List.{AllByRecursion}
use Rattle.sn_journal.specs.Image.{IsImage, SameBatches}
use Rattle.sn_journal.specs.Loading.{IsForeign, IsDamaged}
use Rattle.sn_journal.specs.declared.owner.Owner.{Owner}

-- what loading finds in a file
pub data Finding : Type 0 where
  batches : List (List ℕ) → Finding
  foreign : ℕ → Finding
  damaged : ℕ → Finding

abbrev pub Finds : Owner → List ℕ → Finding → Type 0
Finds owner file (batches payloads) = IsImage owner file payloads
Finds owner file (foreign place) = IsForeign owner file place
Finds owner file (damaged place) = IsDamaged owner file place

abbrev pub HasOneFinding : Type 0
HasOneFinding = (owner : Owner) (file : List ℕ) (one other : Finding) → Finds owner file one → Finds owner file other → one ≡ other

-- Each of these files was left by a crash in loading the one before it.
abbrev pub AreCrashedLoads : Owner → List ℕ → List (List ℕ) → Type 0
AreCrashedLoads owner file [] = ⊤
AreCrashedLoads owner file (next ∷ later) = ((next ≡ file) ⊎ SameBatches owner file next) × AreCrashedLoads owner next later

abbrev pub IsSameAfterCrashedLoads : Type 0
IsSameAfterCrashedLoads = (owner : Owner) (payloads : List (List ℕ)) (file : List ℕ) (files : List (List ℕ)) →
    IsImage owner file payloads → AreCrashedLoads owner file files → AllByRecursion (λ left. IsImage owner left payloads) files
