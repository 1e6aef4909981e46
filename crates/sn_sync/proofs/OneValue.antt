-- A member says one value at most.
use Rattle.std.proofs.Common.{◌≡◌, ◌∙◌, ◌≤◌, inl, inr, sym, ap, subst, ℕ, length, Bool, true, false, Option, Some, None, refl}
use Rattle.serde_json.specs.Data.{Data, boolean}
use Rattle.sn_string.specs.Hex.{IsLowerHex}
use Rattle.sn_string.specs.Uuids.{IsUuidText}
use Rattle.sn_string.proofs.Facts.{decode_sized-lower, parsed-spelled}
use Rattle.sn_sync.specs.Items.{SaysKind}
use Rattle.sn_sync.specs.Members.{Bytes, IsLeftOut, SaysFlag, SaysHash, SaysNumber, SaysOptional, SaysStamp, SaysStampText, SaysText, SaysTextOrEmpty, SaysUuid}
use Rattle.sn_sync.specs.Requests.{SaysLimit}
use Rattle.sn_sync.specs.Stamps.{IsStampText}

-- ---- what a member says is one value

pub one_text : (m : Option Data) (a b : Bytes) → SaysText m a → SaysText m b → a ≡ b
one_text m a b h k = let e = sym h ∙ k in cc

pub one_number : (m : Option Data) (a b : ℕ) → SaysNumber m a → SaysNumber m b → a ≡ b
one_number m a b h k = let e = sym h ∙ k in cc

pub one_hash : (m : Option Data) (a b : Bytes) → SaysHash m a → SaysHash m b → a ≡ b
one_hash m a b (s, says, spelled) (t, also, spells) =
    let P : Bytes → Type 0 = λ digits. IsLowerHex 32 digits a in
    let e = sym (decode_sized-lower 32 t a (subst P (one_text m s t says also) spelled)) ∙ decode_sized-lower 32 t b spells in
    cc

pub one_uuid : (m : Option Data) (a b : Bytes) → SaysUuid m a → SaysUuid m b → a ≡ b
one_uuid m a b (s, says, spelled) (t, also, spells) =
    let P : Bytes → Type 0 = λ text. IsUuidText text a in
    let e = parsed-spelled t a (subst P (one_text m s t says also) spelled) ∙ sym (parsed-spelled t b spells) in
    cc

pub not_left_out : (m : Option Data) (a : Bytes) → SaysText m a → ¬ (IsLeftOut m)
not_left_out m a h (inl k) = let e = sym h ∙ k in cc
not_left_out m a h (inr k) = let e = sym h ∙ k in cc

pub not_number : (m : Option Data) (n : ℕ) → SaysNumber m n → ¬ (IsLeftOut m)
not_number m n h (inl k) = let e = sym h ∙ k in cc
not_number m n h (inr k) = let e = sym h ∙ k in cc

not_flag : (m : Option Data) (flag : Bool) → m ≡ Some (boolean flag) → ¬ (IsLeftOut m)
not_flag m flag h (inl k) = let e = sym h ∙ k in cc
not_flag m flag h (inr k) = let e = sym h ∙ k in cc

pub one_text_or_empty : (m : Option Data) (a b : Bytes) → SaysTextOrEmpty m a → SaysTextOrEmpty m b → a ≡ b
one_text_or_empty m a b (inl h) (inl k) = one_text m a b h k
one_text_or_empty m a b (inl h) (inr k) = absurd (not_left_out m a h k.0)
one_text_or_empty m a b (inr h) (inl k) = absurd (not_left_out m b k h.0)
one_text_or_empty m a b (inr h) (inr k) = h.1 ∙ sym k.1

pub one_optional : (m : Option Data) (a b : Option Bytes) → SaysOptional m a → SaysOptional m b → a ≡ b
one_optional m None None h k = refl
one_optional m None (Some b) h k = absurd (not_left_out m b k h)
one_optional m (Some a) None h k = absurd (not_left_out m a h k)
one_optional m (Some a) (Some b) h k = ap Some (one_text m a b h k)

pub one_limit : (m : Option Data) (a b : ℕ) → SaysLimit m a → SaysLimit m b → a ≡ b
one_limit m a b (inl h) (inl k) = one_number m a b h.0 k.0
one_limit m a b (inl h) (inr k) = absurd (not_number m a h.0 k.0)
one_limit m a b (inr h) (inl k) = absurd (not_number m b k.0 h.0)
one_limit m a b (inr h) (inr k) = h.1 ∙ sym k.1

-- a flag that is up is not down
pub up_or_down : (m : Option Data) → m ≡ Some (boolean true) → ¬ (SaysFlag m false)
up_or_down m h (inl k) = let e = sym h ∙ k in cc
up_or_down m h (inr k) = not_flag m true h k.0

-- ---- what a member says is no other value

-- the text that is there is the spelling of no stamp
pub no_stamp : (m : Option Data) (text : Bytes) → SaysText m text → ((stamp : ℕ) → ¬ (IsStampText text stamp)) → (stamp : ℕ) → ¬ (SaysStamp m stamp)
no_stamp m text h none stamp (other, says, spelled) =
    let P : Bytes → Type 0 = λ t. IsStampText t stamp in
    none stamp (subst P (one_text m other text says h) spelled)

pub no_stamp_text : (m : Option Data) (text : Bytes) → SaysText m text → ((stamp : ℕ) → ¬ (IsStampText text stamp)) → (other : Bytes) → ¬ (SaysStampText m other)
no_stamp_text m text h none other (says, (stamp, spelled)) =
    let P : Bytes → Type 0 = λ t. IsStampText t stamp in
    none stamp (subst P (one_text m other text says h) spelled)

-- the text that is there is too short or too long for a type
pub no_kind : (least : ℕ) (m : Option Data) (text : Bytes) → SaysTextOrEmpty m text → ((least ≤ length text) × (length text ≤ 255) → ⊥)
    → (kind : Bytes) → ¬ (SaysKind least m kind)
no_kind least m text h unfit kind (says, short, long) =
    let P : Bytes → Type 0 = λ t. (least ≤ length t) × (length t ≤ 255) in
    unfit (subst P (one_text_or_empty m kind text says h) (short, long))
