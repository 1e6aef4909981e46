-- When a 003 string opens to a plain text.
use Rattle.std.specs.Prelude.{ℕ, List, [], ◌∷◌}
use Rattle.std.specs.Str.{IsUtf8}
use Rattle.sn_cbc.specs.Cbc.{IsCbc}
use Rattle.sn_hmac.specs.Hmac.{hmac_sha256}
use Rattle.sn_string.specs.Base64.{IsBase64}
use Rattle.sn_string.specs.Grammar.{Reading, Is003, joined, version}
use Rattle.sn_string.specs.Hex.{IsLowerHex}
use Rattle.sn_string.specs.Uuids.{IsUuidText}

-- what the hash covers: `003:uuid:iv:ciphertext`
abbrev pub covered_text : List ℕ → List ℕ → List ℕ → List ℕ
covered_text uuid iv ciphertext = joined (version ∷ uuid ∷ iv ∷ ciphertext ∷ [])

-- the hash that a string's parts have under an authentication key
abbrev pub hash_of : List ℕ → Reading → List ℕ
hash_of authentication_key reading = hmac_sha256 authentication_key (covered_text reading.uuid reading.iv reading.ciphertext)

-- the text is a 003 string of these parts, which names the uuid
pub record NamesItem (text : List ℕ) (reading : Reading) (uuid : List ℕ) : Type 0 where
  pub reads : Is003 text reading
  pub uuid_is : IsUuidText reading.uuid uuid

-- and whose hash is that of its parts under the authentication key
pub record IsAuthentic (text : List ℕ) (reading : Reading) (uuid authentication_key : List ℕ) : Type 0 where
  pub names : NamesItem text reading uuid
  pub hash_is : IsLowerHex 32 reading.hash (hash_of authentication_key reading)

-- the parts of the initialization vector and the ciphertext stand for the plain text under the encryption key
pub record Decrypts (iv_part ciphertext_part encryption_key plain : List ℕ) : Type 0 where
  pub iv : List ℕ
  pub bytes : List ℕ
  pub iv_is : IsLowerHex 16 iv_part iv
  pub bytes_are : IsBase64 ciphertext_part bytes
  pub cbc : IsCbc encryption_key iv plain bytes

-- the text opens to the plain text, as the string of this uuid under these two keys
pub record Opens (text uuid encryption_key authentication_key plain : List ℕ) : Type 0 where
  pub reading : Reading
  pub authentic : IsAuthentic text reading uuid authentication_key
  pub decrypts : Decrypts reading.iv reading.ciphertext encryption_key plain
  pub utf8 : IsUtf8 plain
