-- The grammar of the 003 string.
use Rattle.std.specs.Prelude.{◌≡◌, ℕ, ◌<◌, ◌%◌, ◌==◌, Bool, List, [], ◌∷◌, length, codes}
use Rattle.std.specs.List.{slice_split, join_with_byte}
use Rattle.sn_string.specs.Base64.{IsBase64}
use Rattle.sn_string.specs.Hex.{IsLowerHex}
use Rattle.sn_string.specs.Parameters.{IsParamsPart, params_text}
use Rattle.sn_string.specs.Uuids.{IsUuidText}
use Rattle.sn_string.specs.declared.params.Params.{Params}

-- a colon
abbrev pub colon : ℕ
colon = 58

abbrev pub is_colon : ℕ → Bool
is_colon byte = byte == colon

-- the parts of a text between its colons; the empty text has one
abbrev pub parts_of : List ℕ → List (List ℕ)
parts_of text = slice_split is_colon text

-- parts with colons between
abbrev pub joined : List (List ℕ) → List ℕ
joined parts = join_with_byte colon parts

-- `003`
abbrev pub version : List ℕ
version = codes "003"

-- a hash is 64 lower-case hex digits
abbrev pub IsHash : List ℕ → Type 0
IsHash part = (bytes : List ℕ) × IsLowerHex 32 part bytes

-- a uuid is 8-4-4-4-12 lower-case hex digits
abbrev pub IsUuid : List ℕ → Type 0
IsUuid part = (uuid : List ℕ) × IsUuidText part uuid

-- an initialization vector is 32 lower-case hex digits
abbrev pub IsIv : List ℕ → Type 0
IsIv part = (bytes : List ℕ) × IsLowerHex 16 part bytes

-- a ciphertext is the base64 of one block of 16 bytes or more
pub record IsCiphertext (part : List ℕ) : Type 0 where
  pub bytes : List ℕ
  pub encoded : IsBase64 part bytes
  pub some : 0 < length bytes
  pub whole : length bytes % 16 ≡ 0

-- what a text says: the five parts after the version, and the parameters that the last stands for
pub record Reading : Type 0 where
  pub hash : List ℕ
  pub uuid : List ℕ
  pub iv : List ℕ
  pub ciphertext : List ℕ
  pub params_text : List ℕ
  pub params : Params

-- the text is a 003 string that says this: between its colons stand the version and the five parts,
-- each in its form
pub record Is003 (text : List ℕ) (reading : Reading) : Type 0 where
  pub parts : parts_of text ≡ version ∷ reading.hash ∷ reading.uuid ∷ reading.iv ∷ reading.ciphertext ∷ reading.params_text ∷ []
  pub hash : IsHash reading.hash
  pub uuid : IsUuid reading.uuid
  pub iv : IsIv reading.iv
  pub ciphertext : IsCiphertext reading.ciphertext
  pub params : IsParamsPart reading.params_text reading.params

-- what the writer's text says
abbrev pub written : List ℕ → List ℕ → List ℕ → List ℕ → Params → Reading
written hash uuid iv ciphertext p =
    record { hash = hash; uuid = uuid; iv = iv; ciphertext = ciphertext; params_text = params_text p; params = p }

-- the same with other parameters
abbrev pub with_params_of : Reading → Params → Reading
with_params_of reading p = record reading { params_text = params_text p; params = p }
