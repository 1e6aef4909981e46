-- What holds of every ciphertext.
use Rattle.std.specs.Prelude.{◌≡◌, ℕ, List, length}
use Rattle.sn_cbc.specs.Cbc.{IsCbc, AreBytes}

-- a ciphertext has one plain text
abbrev pub OnePlain : Type 0
OnePlain = (key iv plain other bytes : List ℕ) → length iv ≡ 16 → AreBytes iv → AreBytes bytes → AreBytes plain → AreBytes other
    → IsCbc key iv plain bytes → IsCbc key iv other bytes → plain ≡ other

-- a plain text has one ciphertext
abbrev pub OneCiphertext : Type 0
OneCiphertext = (key iv plain bytes other : List ℕ)
    → IsCbc key iv plain bytes → IsCbc key iv plain other → bytes ≡ other
