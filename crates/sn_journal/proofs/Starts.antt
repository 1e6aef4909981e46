-- The three writes of a start.
use Rattle.std.proofs.Common.{◌≡◌, inl, inr, ◌≤◌, ◌<◌, ℕ, ◌+◌, List, [], ◌∷◌, ◌++◌, length, take, drop, slice_index, refl, sym, ◌∙◌, ap, arith, append-nil, Result, Ok, Err, OnOk, length-append, length-drop}
use Rattle.std.proofs.lemmas.List.{drop_all, take_all}
use Rattle.std.proofs.lemmas.Bool.{cases_eq}
use Rattle.sn_disk.specs.Disk.{overwritten, Torn}
use Rattle.sn_journal.specs.Image.{header_of, IsImage}
use Rattle.sn_journal.specs.Facts.{header_split, length-header}
use Rattle.sn_journal.specs.declared.owner.Owner.{Owner}
use Rattle.sn_journal.specs.declared.owner.Owner.TheVariants.{Server, Device}

pub on_ok_then : {T E : Type 0} (r : Result T E) (P Q : Type 0) → (P → Q) → OnOk r P → OnOk r Q
on_ok_then (Ok x) P Q f p = f p
on_ok_then (Err e) P Q f p = p

pub letter_made : (owner : Owner) (old new : List ℕ) → drop 1 old ≡ drop 1 (header_of owner) ++ 0 ∷ [] → new ≡ overwritten old 0 (83 ∷ []) → new ≡ header_of owner ++ 0 ∷ []
letter_made owner old new tail is =
    is ∙ ap (λ (l : List ℕ). 83 ∷ l) tail ∙ ap (λ (h : List ℕ). h ++ 0 ∷ []) (sym (header_split owner))

pub header_made : (owner : Owner) (old new bytes : List ℕ) → 0 < length old → length old ≤ 17 → bytes ≡ drop 1 (header_of owner) ++ 0 ∷ [] → new ≡ overwritten old 1 bytes → (length new ≡ 17) × (drop 1 new ≡ drop 1 (header_of owner) ++ 0 ∷ [])
header_made owner [] new bytes some few says is = absurd (omega arith)
header_made owner (b ∷ old) new bytes some few says is =
    let sixteen : length bytes ≡ 16 = omega (arith, ap length says, length-append (drop 1 (header_of owner)) (0 ∷ []), length-drop 1 (header_of owner), length-header owner) in
    let whole : new ≡ b ∷ bytes = is ∙ ap (λ (l : List ℕ). (b ∷ bytes) ++ l) (drop_all (1 + length bytes) (b ∷ old) (omega arith)) ∙ append-nil (b ∷ bytes) in
    (omega (arith, ap length whole), ap (λ (l : List ℕ). drop 1 l) whole ∙ says)

-- a crash in the first write
pub first_byte : (owner : Owner) (old c : List ℕ) → length old ≤ 1 → Torn 0 1 old c → IsImage owner c []
first_byte owner old c few torn = inr (inl (omega (arith, torn.no_longer)), refl)

zero_first : (b : ℕ) (old c : List ℕ) → take (length (take 1 (b ∷ old))) c ≡ take 1 (b ∷ old) → slice_index c 0 ≡ b
zero_first b old [] is = absurd (cc)
zero_first b old (x ∷ c) is = cc

pub header_torn : (owner : Owner) (old c : List ℕ) → 0 < length old → length old ≤ 17 → slice_index old 0 ≡ 0 → Torn 1 16 old c → IsImage owner c []
header_torn owner [] c some few zero torn = absurd (omega arith)
header_torn owner (b ∷ old) c some few zero torn = inr (inr (inl (omega (arith, torn.no_longer), zero_first b old c torn.before ∙ zero)), refl)

-- a crash in the last write
pub letter_torn : (owner : Owner) (old c : List ℕ) → length old ≡ 17 → drop 1 old ≡ drop 1 (header_of owner) ++ 0 ∷ [] → Torn 0 1 old c → IsImage owner c []
letter_torn owner old c long tail torn =
    let same : length c ≡ 17 = omega (arith, long, torn.no_shorter, torn.no_longer) in
    let behind : drop 1 c ≡ drop 1 (header_of owner) ++ 0 ∷ [] = ap (λ (l : List ℕ). drop 1 l) (sym (take_all (length old) c (omega arith))) ∙ torn.after ∙ tail in
    elim (cases_eq (slice_index c 0) 83) [
      | inl letter ↦ inl (record { rest = 0 ∷ []; split = whole c (omega arith) letter ∙ ap (λ (l : List ℕ). 83 ∷ l) behind ∙ ap (λ (h : List ℕ). h ++ 0 ∷ []) (sym (header_split owner) ∙ sym (append-nil (header_of owner))); closed = omega arith; bounded = λ k d below. absurd (omega arith) })
      | inr other ↦ inr (inr (inr (record { long = same; other = other; same = behind })), refl)
    ]
  where
    whole : (c : List ℕ) → 0 < length c → slice_index c 0 ≡ 83 → c ≡ 83 ∷ drop 1 c
    whole [] some is = absurd (omega arith)
    whole (b ∷ c) some is = ap (λ (x : ℕ). x ∷ c) is
