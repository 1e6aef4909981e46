-- Bytes that are not UTF-8.
use Rattle.std.specs.Prelude.{ℕ, List}
use Rattle.std.specs.Str.{IsUtf8, IsValidUpTo}
use Rattle.sn_cbc.specs.Cbc.{AreBytes}

-- the bytes are not UTF-8, and their longest prefix that is ends at this place
pub record IsValidTo (bytes : List ℕ) (place : ℕ) : Type 0 where
  pub are : AreBytes bytes
  pub invalid : ¬ (IsUtf8 bytes)
  pub valid : IsValidUpTo bytes place
