-- Canonical base64: the standard alphabet, padding, and zero bits past the last byte (RFC 4648, 4).
use Rattle.std.specs.Prelude.{◌≡◌, ℕ, List}
use Rattle.base64.specs.Engines.{standard}
use Rattle.base64.specs.GeneralPurpose.{encode_of, IsBytes}

-- the base64 of some bytes
abbrev pub base64_text : List ℕ → List ℕ
base64_text bytes = encode_of standard bytes

-- the text is the base64 of these bytes
pub record IsBase64 (text bytes : List ℕ) : Type 0 where
  pub fit : IsBytes bytes
  pub spelled : text ≡ base64_text bytes
