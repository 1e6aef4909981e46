-- Lists whose elements are right or wrong by those before them.
use Rattle.std.specs.Prelude.{◌≡◌, ℕ, ◌<◌, List, length, take, slice_get, Some}

-- the elements before a place are right, each by those before it
abbrev pub RightBefore : {X : Type 0} → (List X → X → Type 0) → List X → ℕ → Type 0
RightBefore {X} Right items n = (k : ℕ) (x : X) → k < n → slice_get items k ≡ Some x → Right (take k items) x

-- all are
abbrev pub AllRight : {X : Type 0} → (List X → X → Type 0) → List X → Type 0
AllRight Right items = RightBefore Right items (length items)

-- the first that isn't has this place, counted from 0
abbrev pub IsFirstWrong : {X : Type 0} → (List X → X → Type 0) → List X → ℕ → Type 0
IsFirstWrong {X} Right items n = (x : X) × (slice_get items n ≡ Some x) × RightBefore Right items n × ¬ (Right (take n items) x)
