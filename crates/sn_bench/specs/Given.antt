-- What is made of a caller's bytes.
use Rattle.std.specs.Prelude.{◌≡◌, ℕ, List}
use Rattle.sn_string.specs.declared.params.Params.{Params}

-- the parameters have these parts
abbrev pub HasParts : List ℕ → ℕ → List ℕ → Params → Type 0
HasParts identifier cost nonce p = (p.identifier ≡ identifier) × (p.pw_cost ≡ cost) × (p.pw_nonce ≡ nonce)
