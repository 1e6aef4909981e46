-- Why two strings are no item sealed under a key set.
use Rattle.std.specs.Prelude.{◌≡◌, ◌≢◌, ℕ, List, false, ⊤}
use Rattle.sn_items.specs.Items.{Carries, OpensKey, encryption_half, authentication_half}
use Rattle.sn_items.specs.Objects.{is_object}
use Rattle.sn_items.specs.Opens.{Opens}
use Rattle.sn_items.specs.Refusals.{HasCause}
use Rattle.sn_items.specs.declared.error.ItemError.{ItemError}
use Rattle.sn_items.specs.declared.error.ItemError.TheVariants.{Form, OtherUuid, HashMismatch, Padding, NotUtf8, NotItemKey, NotObject, OtherSet, Memory}
use Rattle.sn_items.specs.declared.sealed.Sealed.{Sealed}
use Rattle.sn_items.specs.declared.sealed.Which.{Which}
use Rattle.sn_items.specs.declared.sealed.Which.TheVariants.{Enc, Content}
use Rattle.sn_string.specs.Grammar.{Reading, Is003, parts_of}
use Rattle.sn_string.specs.Hex.{IsLowerHex}
use Rattle.sn_string.specs.Refusals.{RefusedFor}
use Rattle.sn_string.specs.declared.params.KeySet.{KeySet}
use Rattle.sn_string.specs.declared.params.Params.{Params}
use Rattle.sn_string.specs.declared.reader.StringError.{StringError}
use Rattle.sn_string.specs.declared.reader.StringError.TheVariants as string

-- the key string is a 003 string, and the content string is none
pub record IsContentForm (sealed : Sealed) (error : StringError) : Type 0 where
  pub enc : Reading
  pub enc_reads : Is003 sealed.enc enc
  pub refused : RefusedFor (parts_of sealed.content) error

-- both are 003 strings
pub record BothRead (sealed : Sealed) (enc content : Reading) : Type 0 where
  pub enc_reads : Is003 sealed.enc enc
  pub content_reads : Is003 sealed.content content

-- both are 003 strings, and the key string carries other parameters than the set's
pub record EncIsOther (sealed : Sealed) (params : Params) (nonce : List ℕ) : Type 0 where
  pub enc : Reading
  pub content : Reading
  pub read : BothRead sealed enc content
  pub differs : enc.params ≢ params
  pub nonce_is : nonce ≡ enc.params.pw_nonce

-- both are 003 strings, and the content string alone carries other parameters than the set's
pub record ContentIsOther (sealed : Sealed) (params : Params) (nonce : List ℕ) : Type 0 where
  pub enc : Reading
  pub content : Reading
  pub read : BothRead sealed enc content
  pub same : enc.params ≡ params
  pub differs : content.params ≢ params
  pub nonce_is : nonce ≡ content.params.pw_nonce

-- the key string opens to a text that spells no item's key
pub record IsNoKey (enc uuid : List ℕ) (set : KeySet) : Type 0 where
  pub text : List ℕ
  pub opens : Opens enc uuid set.mk set.ak text
  pub none : (key : List ℕ) → ¬ (IsLowerHex 64 text key)

-- why a key string of the set's parameters gives no item's key
abbrev pub KeyStringCause : List ℕ → List ℕ → KeySet → ItemError → Type 0
KeyStringCause enc uuid set NotItemKey = IsNoKey enc uuid set
KeyStringCause enc uuid set error = HasCause enc uuid set.mk set.ak error

-- the content string opens under the item's key to a text that is no object
pub record IsNoObject (content uuid key : List ℕ) : Type 0 where
  pub text : List ℕ
  pub opens : Opens content uuid (encryption_half key) (authentication_half key) text
  pub none : is_object text ≡ false

-- why a content string gives no content under the item's key
abbrev pub ContentStringCause : List ℕ → List ℕ → List ℕ → ItemError → Type 0
ContentStringCause content uuid key NotObject = IsNoObject content uuid key
ContentStringCause content uuid key error = HasCause content uuid (encryption_half key) (authentication_half key) error

-- both strings carry the set's parameters, and the key string gives no item's key
pub record EncIsRefused (sealed : Sealed) (uuid : List ℕ) (set : KeySet) (error : ItemError) : Type 0 where
  pub carries : Carries sealed set.params
  pub cause : KeyStringCause sealed.enc uuid set error

-- the key string gives an item's key, and the content string no content under it
pub record ContentIsRefused (sealed : Sealed) (uuid : List ℕ) (set : KeySet) (error : ItemError) : Type 0 where
  pub carries : Carries sealed set.params
  pub key : List ℕ
  pub enc : OpensKey sealed.enc uuid set key
  pub cause : ContentStringCause sealed.content uuid key error

-- the error's cause stands at the key string, and none before it
abbrev pub EncHasCause : Sealed → List ℕ → KeySet → ItemError → Type 0
EncHasCause sealed uuid set (Form error) = RefusedFor (parts_of sealed.enc) error
EncHasCause sealed uuid set (OtherSet nonce) = EncIsOther sealed set.params nonce
EncHasCause sealed uuid set NotObject = ⊥
EncHasCause sealed uuid set Memory = ⊤
EncHasCause sealed uuid set error = EncIsRefused sealed uuid set error

-- the same at the content string
abbrev pub ContentHasCause : Sealed → List ℕ → KeySet → ItemError → Type 0
ContentHasCause sealed uuid set (Form error) = IsContentForm sealed error
ContentHasCause sealed uuid set (OtherSet nonce) = ContentIsOther sealed set.params nonce
ContentHasCause sealed uuid set NotItemKey = ⊥
ContentHasCause sealed uuid set Memory = ⊤
ContentHasCause sealed uuid set error = ContentIsRefused sealed uuid set error

-- the error's cause stands at this string, and none before it; want of memory alone is free
abbrev pub ItemHasCause : Sealed → List ℕ → KeySet → Which → ItemError → Type 0
ItemHasCause sealed uuid set Enc error = EncHasCause sealed uuid set error
ItemHasCause sealed uuid set Content error = ContentHasCause sealed uuid set error

-- a refusal of a string's form, as an item's
abbrev pub form_of : StringError → ItemError
form_of string.Memory = Memory
form_of error = Form error

-- the error says another set's nonce, where memory sufficed to keep it
abbrev pub SaysNonce : List ℕ → ItemError → Type 0
SaysNonce nonce (OtherSet said) = said ≡ nonce
SaysNonce nonce Memory = ⊤
SaysNonce nonce error = ⊥
