-- Lower-case hex digits, two a byte (RFC 4648, 8, in lower case).
use Rattle.std.specs.Prelude.{◌≡◌, ℕ, Bool, ◌&&◌, ◌||◌, nat_le, List, length}
use Rattle.hex.specs.Hex.{encode_lower, IsBytes}

-- the text is the lower-case digits of these n bytes
pub record IsLowerHex (n : ℕ) (text bytes : List ℕ) : Type 0 where
  pub count : length bytes ≡ n
  pub fit : IsBytes bytes
  pub spelled : text ≡ encode_lower bytes

-- the byte is a digit in lower case: `0` to `9` are 48 to 57, and `a` to `f` are 97 to 102
abbrev pub is_lower_digit : ℕ → Bool
is_lower_digit byte = (nat_le 48 byte && nat_le byte 57) || (nat_le 97 byte && nat_le byte 102)
