-- An item that opens under a set is sealed again under another, and opens under that.
use Rattle.std.proofs.Common.{◌≡◌, ◌≢◌, ◌∙◌, ap, refl, sym, subst, inl, inr, ℕ, List, [], ◌∷◌}
use Rattle.std.proofs.lemmas.List.Splits.{join_with_byte-slice_split}
use Rattle.rand_chacha.specs.ChaCha.{ChaCha}
use Rattle.sn_items.specs.Draws.{drawn}
use Rattle.sn_items.specs.ItemRefusals.{ItemHasCause}
use Rattle.sn_items.specs.Items.{CarriesParams, OpensItem}
use Rattle.sn_items.specs.Opens.{Opens}
use Rattle.sn_items.specs.Refusals.{HasCause}
use Rattle.sn_items.specs.Seals.{IsSealed}
use Rattle.sn_items.specs.declared.error.ItemError.{ItemError}
use Rattle.sn_items.specs.declared.error.ItemError.TheVariants.{Form, OtherUuid, HashMismatch, Padding, NotUtf8, NotItemKey, NotObject, OtherSet, Memory}
use Rattle.sn_items.specs.declared.sealed.Sealed.{Sealed}
use Rattle.sn_items.specs.declared.sealed.Which.{Which}
use Rattle.sn_items.proofs.Facts.{no_item_refusal, no_refusal, opens_once, utf8_bytes}
use Rattle.sn_rekey.specs.Rewraps.{DrawsOneAtMost, RefusalDraws, Rewraps}
use Rattle.sn_sets.specs.Seals.{IsLater}
use Rattle.sn_sets.specs.Sets.{OpensNot}
use Rattle.sn_sets.proofs.Facts.{later_at_once}
use Rattle.sn_string.specs.Grammar.{Is003, Reading, colon, joined, version, with_params_of}
use Rattle.sn_string.specs.Hex.{IsLowerHex}
use Rattle.sn_string.specs.declared.params.KeySet.{KeySet}
use Rattle.sn_string.specs.declared.params.Params.{Params}

-- ---- the strings

-- a 003 string is its parts with colons between
spelled : (text : List ℕ) (r : Reading) → Is003 text r
    → text ≡ joined (version ∷ r.hash ∷ r.uuid ∷ r.iv ∷ r.ciphertext ∷ r.params_text ∷ [])
spelled text r h = sym (join_with_byte-slice_split colon text) ∙ ap joined h.parts

-- the hash covers no parameters, so a string opens with others as it did
opens_with_others : (text again uuid encryption_key authentication_key plain : List ℕ) (params : Params)
    (opens : Opens text uuid encryption_key authentication_key plain) → Is003 again (with_params_of opens.reading params)
    → Opens again uuid encryption_key authentication_key plain
opens_with_others text again uuid encryption_key authentication_key plain params opens reads =
    record {
      reading = with_params_of opens.reading params;
      authentic = record { names = record { reads = reads; uuid_is = opens.authentic.names.uuid_is }; hash_is = opens.authentic.hash_is };
      decrypts = opens.decrypts;
      utf8 = opens.utf8;
    }

-- the key string that was made of the digits: the vector that was drawn, and what it spells
pub record SealsKey (words : ChaCha) (uuid digits : List ℕ) (set : KeySet) (enc : List ℕ) (left : ChaCha) : Type 0 where
  pub iv : List ℕ
  pub is_drawn : (iv, left) ≡ drawn 16 words
  pub is_sealed : IsSealed digits uuid iv set.mk set.ak set.params enc
  pub opens : Opens enc uuid set.mk set.ak digits
  pub carries : CarriesParams enc set.params

pub rewraps : (words left : ChaCha) (uuid text : List ℕ) (before after : KeySet) (given again : Sealed) (digits : List ℕ)
    → OpensItem given uuid before text → Opens given.enc uuid before.mk before.ak digits
    → ((reading : Reading) → Is003 given.content reading → Is003 again.content (with_params_of reading after.params))
    → SealsKey words uuid digits after again.enc left → Rewraps words uuid text before after given again left
rewraps words left uuid text before after given again digits item opens others key =
    let same : item.enc.digits ≡ digits =
    opens_once given.enc uuid before.mk before.ak item.enc.digits digits (utf8_bytes item.enc.digits item.enc.opens.utf8) (utf8_bytes digits opens.utf8)
    item.enc.opens opens in
    let digits_are : IsLowerHex 64 digits item.key = subst (λ (d : List ℕ). IsLowerHex 64 d item.key) same item.enc.spelled in
    let reading : Reading = item.opens.reading in
    let reads : Is003 again.content (with_params_of reading after.params) = others reading item.opens.authentic.names.reads in
    record {
      item_key = item.key;
      has_key = item.enc;
      enc_iv = key.iv;
      is_drawn = key.is_drawn;
      enc_is = subst (λ (d : List ℕ). IsSealed d uuid key.iv after.mk after.ak after.params again.enc) digits_are.spelled key.is_sealed;
      reading = reading;
      reads = item.opens.authentic.names.reads;
      content_is = spelled again.content (with_params_of reading after.params) reads;
      still = record {
        carries = record {
          enc = key.carries;
          content = record { reading = with_params_of reading after.params; reads = reads; params_are = refl };
        };
        key = item.key;
        enc = record { digits = digits; opens = key.opens; spelled = digits_are };
        opens = opens_with_others given.content again.content uuid _ _ text after.params item.opens reads;
        object = item.object;
      };
    }

-- ---- refusals

-- strings that are refused are no item
pub opens_not : (sealed : Sealed) (uuid : List ℕ) (set : KeySet) (which : Which) (error : ItemError)
    → ItemHasCause sealed uuid set which error → error ≢ Memory → OpensNot set uuid sealed
opens_not sealed uuid set which error cause other = λ text opens.
    other (no_item_refusal sealed uuid set text which error opens cause)

-- the key string of an item has no refusal but want of memory
pub key_is_read : (sealed : Sealed) (uuid : List ℕ) (set : KeySet) (text : List ℕ) (error : ItemError) → OpensItem sealed uuid set text
    → HasCause sealed.enc uuid set.mk set.ak error → error ≡ Memory
key_is_read sealed uuid set text error item cause =
    no_refusal sealed.enc uuid set.mk set.ak item.enc.digits error (utf8_bytes item.enc.digits item.enc.opens.utf8) item.enc.opens cause

-- ---- what is drawn

pub later_one : (words left : ChaCha) → DrawsOneAtMost words left → IsLater words left
later_one words left (inl same) = subst (λ (w : ChaCha). IsLater words w) (sym same) (later_at_once words)
later_one words left (inr one) = (16 ∷ [], one)

pub undrawn : (words : ChaCha) (error : ItemError) → RefusalDraws words error words
undrawn words (Form e) = refl
undrawn words (OtherUuid written) = refl
undrawn words (HashMismatch written computed) = refl
undrawn words Padding = refl
undrawn words (NotUtf8 place) = refl
undrawn words NotItemKey = refl
undrawn words NotObject = refl
undrawn words (OtherSet nonce) = refl
undrawn words Memory = inl refl

pub refusal_draws_none : (words : ChaCha) (error : ItemError) (left : ChaCha) → RefusalDraws words error left → error ≢ Memory → left ≡ words
refusal_draws_none words (Form e) left draws other = draws
refusal_draws_none words (OtherUuid written) left draws other = draws
refusal_draws_none words (HashMismatch written computed) left draws other = draws
refusal_draws_none words Padding left draws other = draws
refusal_draws_none words (NotUtf8 place) left draws other = draws
refusal_draws_none words NotItemKey left draws other = draws
refusal_draws_none words NotObject left draws other = draws
refusal_draws_none words (OtherSet nonce) left draws other = draws
refusal_draws_none words Memory left draws other = absurd (other refl)
