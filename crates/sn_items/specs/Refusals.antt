-- Why a text doesn't open.
use Rattle.std.specs.Prelude.{◌≡◌, ◌≢◌, ℕ, List, ⊤}
use Rattle.sn_cbc.specs.Cbc.{AreBytes}
use Rattle.sn_items.specs.Opens.{NamesItem, IsAuthentic, Decrypts, hash_of}
use Rattle.sn_items.specs.Utf8.{IsValidTo}
use Rattle.sn_items.specs.declared.error.ItemError.{ItemError}
use Rattle.sn_items.specs.declared.error.ItemError.TheVariants.{Form, OtherUuid, HashMismatch, Padding, NotUtf8, NotItemKey, NotObject, OtherSet, Memory}
use Rattle.sn_string.specs.Grammar.{Reading, parts_of}
use Rattle.sn_string.specs.Hex.{IsLowerHex}
use Rattle.sn_string.specs.Refusals.{RefusedFor}

-- the string names another uuid
pub record IsOtherUuid (text uuid written : List ℕ) : Type 0 where
  pub reading : Reading
  pub names : NamesItem text reading written
  pub differs : written ≢ uuid

-- the string names the uuid, and its hash isn't that of its parts
pub record IsHashMismatch (text uuid authentication_key written computed : List ℕ) : Type 0 where
  pub reading : Reading
  pub names : NamesItem text reading uuid
  pub written_is : IsLowerHex 32 reading.hash written
  pub computed_is : computed ≡ hash_of authentication_key reading
  pub differs : written ≢ computed

-- the string is authentic, and its ciphertext stands for no plain text
pub record IsPaddingFault (text uuid encryption_key authentication_key : List ℕ) : Type 0 where
  pub reading : Reading
  pub authentic : IsAuthentic text reading uuid authentication_key
  pub none : (plain : List ℕ) → AreBytes plain → ¬ (Decrypts reading.iv reading.ciphertext encryption_key plain)

-- the string is authentic and stands for bytes whose longest UTF-8 prefix ends at this place
pub record IsNotUtf8 (text uuid encryption_key authentication_key : List ℕ) (place : ℕ) : Type 0 where
  pub reading : Reading
  pub authentic : IsAuthentic text reading uuid authentication_key
  pub plain : List ℕ
  pub decrypts : Decrypts reading.iv reading.ciphertext encryption_key plain
  pub valid : IsValidTo plain place

-- the error's cause stands, and none before it; want of memory alone is free, and what only an item refuses never comes
abbrev pub HasCause : List ℕ → List ℕ → List ℕ → List ℕ → ItemError → Type 0
HasCause text uuid encryption_key authentication_key (Form error) = RefusedFor (parts_of text) error
HasCause text uuid encryption_key authentication_key (OtherUuid written) = IsOtherUuid text uuid written
HasCause text uuid encryption_key authentication_key (HashMismatch written computed) = IsHashMismatch text uuid authentication_key written computed
HasCause text uuid encryption_key authentication_key Padding = IsPaddingFault text uuid encryption_key authentication_key
HasCause text uuid encryption_key authentication_key (NotUtf8 place) = IsNotUtf8 text uuid encryption_key authentication_key place
HasCause text uuid encryption_key authentication_key NotItemKey = ⊥
HasCause text uuid encryption_key authentication_key NotObject = ⊥
HasCause text uuid encryption_key authentication_key (OtherSet nonce) = ⊥
HasCause text uuid encryption_key authentication_key Memory = ⊤
