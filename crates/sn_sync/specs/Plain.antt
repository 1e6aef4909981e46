-- Digits with no zero in front of another.
use Rattle.std.specs.Prelude.{◌≡◌, ℕ, ◌≤◌, List, length, slice_index}

pub record IsPlain (digits : List ℕ) : Type 0 where
  pub some : 1 ≤ length digits
  pub few : length digits ≤ 18
  pub plain : slice_index digits 0 ≡ 48 → length digits ≡ 1
