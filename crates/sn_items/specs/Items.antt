-- When two strings are an item sealed under a key set, and what sealing writes.
use Rattle.std.specs.Prelude.{◌≡◌, ℕ, List, take, drop, IsTrue}
use Rattle.hex.specs.Hex.{encode_lower}
use Rattle.rand_chacha.specs.ChaCha.{ChaCha}
use Rattle.sn_items.specs.Draws.{drawn}
use Rattle.sn_items.specs.Objects.{is_object}
use Rattle.sn_items.specs.Opens.{Opens}
use Rattle.sn_items.specs.Seals.{IsSealed}
use Rattle.sn_items.specs.declared.sealed.Sealed.{Sealed}
use Rattle.sn_string.specs.Grammar.{Reading, Is003}
use Rattle.sn_string.specs.Hex.{IsLowerHex}
use Rattle.sn_string.specs.declared.params.KeySet.{KeySet}
use Rattle.sn_string.specs.declared.params.Params.{Params}

-- a 003 string whose params part stands for these parameters
pub record CarriesParams (text : List ℕ) (params : Params) : Type 0 where
  pub reading : Reading
  pub reads : Is003 text reading
  pub params_are : reading.params ≡ params

-- both strings carry the parameters
pub record Carries (sealed : Sealed) (params : Params) : Type 0 where
  pub enc : CarriesParams sealed.enc params
  pub content : CarriesParams sealed.content params

-- an item's key of 64 bytes: the first half encrypts its content, the other half authenticates it
abbrev pub encryption_half : List ℕ → List ℕ
encryption_half key = take 32 key

abbrev pub authentication_half : List ℕ → List ℕ
authentication_half key = drop 32 key

-- the key string opens under the set's keys to the 128 lower-case hex digits of the item's key
pub record OpensKey (enc uuid : List ℕ) (set : KeySet) (key : List ℕ) : Type 0 where
  pub digits : List ℕ
  pub opens : Opens enc uuid set.mk set.ak digits
  pub spelled : IsLowerHex 64 digits key

-- the strings are the item of this uuid and content, sealed under the set: both carry the set's parameters, the key string
-- opens to an item's key, the content string opens under its halves to the content, and that is an object text
pub record OpensItem (sealed : Sealed) (uuid : List ℕ) (set : KeySet) (content : List ℕ) : Type 0 where
  pub carries : Carries sealed set.params
  pub key : List ℕ
  pub enc : OpensKey sealed.enc uuid set key
  pub opens : Opens sealed.content uuid (encryption_half key) (authentication_half key) content
  pub object : IsTrue (is_object content)

-- an item's key, its content's vector and its key string's vector, drawn in this order
pub record IsDrawn (before : ChaCha) (key content_iv enc_iv : List ℕ) (afterwards : ChaCha) : Type 0 where
  pub first : ChaCha
  pub second : ChaCha
  pub key_drawn : (key, first) ≡ drawn 64 before
  pub content_drawn : (content_iv, second) ≡ drawn 16 first
  pub enc_drawn : (enc_iv, afterwards) ≡ drawn 16 second

-- the strings are the content sealed under the item's key and the first vector, and the key's digits sealed under the set
-- and the other
pub record IsItemSealed (content uuid key content_iv enc_iv : List ℕ) (set : KeySet) (sealed : Sealed) : Type 0 where
  pub content_is : IsSealed content uuid content_iv (encryption_half key) (authentication_half key) set.params sealed.content
  pub enc_is : IsSealed (encode_lower key) uuid enc_iv set.mk set.ak set.params sealed.enc
