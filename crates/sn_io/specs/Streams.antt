-- What the calls of a stream do to its bytes, where it tells them.
use Rattle.std.specs.Prelude.{ℕ, ◌≡◌, ◌⊎◌, ◌<◌, ◌≤◌, ◌+◌, ◌-◌, ◌^◌, List, [], ◌∷◌, ◌++◌, length, take, Result, IfOk, ⊤, None, Some}
use Rattle.std.specs.declared.option.Option.{Option}
use Rattle.std.specs.Io.KnownBytes.{Appends, Consumes, IsAtEnd}
use Rattle.sn_io.specs.Causes.{Rose}

-- a write takes no more than there is, and a byte at least where there is one
abbrev pub TakesSome : {E : Type 0} → Result ℕ E → List ℕ → Type 0
TakesSome result bytes = IfOk result (λ n. (n ≤ length bytes) × (0 < length bytes → 0 < n))

-- What was given before, and then one value more. From its value number 2^64 - 1 on it may tell no longer.
abbrev pub Gains : {A : Type 0} → Option (List A) → Option (List A) → A → Type 0
Gains None new value = ⊤
Gains (Some given) None value = 2 ^ 64 - 1 ≤ length given + 1
Gains (Some given) (Some more) value = more ≡ given ++ value ∷ []

-- a front of the bytes was appended, and not all of them
abbrev pub TakesPart : Option (List ℕ) → Option (List ℕ) → List ℕ → Type 0
TakesPart old new bytes = (n : ℕ) × (n < length bytes) × Appends old new (take n bytes)

-- so many bytes were taken from the front
abbrev pub GivesPart : Option (List ℕ) → Option (List ℕ) → ℕ → Type 0
GivesPart old new n = (bytes : List ℕ) × (length bytes ≡ n) × Consumes old new bytes

-- at most so many bytes were taken from the front
abbrev pub GivesAtMost : Option (List ℕ) → Option (List ℕ) → ℕ → Type 0
GivesAtMost old new most = (bytes : List ℕ) × (length bytes ≤ most) × Consumes old new bytes

-- a source gave these bytes, at most so many, and has no more
pub record HasGiven (most : ℕ) (before after : Option (List ℕ)) (input : List ℕ) : Type 0 where
  pub given : Consumes before after input
  pub at_end : IsAtEnd after
  pub short : length input ≤ most

-- these bytes were appended, or a front of them where the count of faults rose
abbrev pub Tells : Option (List ℕ) → Option (List ℕ) → ℕ → ℕ → List ℕ → Type 0
Tells before after faults_before faults_after bytes = Appends before after bytes ⊎ (TakesPart before after bytes × Rose faults_before faults_after)
