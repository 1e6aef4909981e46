-- Bytes read with U+FFFD for what is no text are text.
use Rattle.std.proofs.Common.{arith, ◌≡◌, sym, subst, refl, ℕ, zero, suc, ◌+◌, ◌≤◌, ◌<◌, ◌==◌, nat_lt, Bool, true, false, cond, Option, Some, None, List, [], ◌∷◌, ◌++◌, length, slice_index, take, drop, length-drop, IsUtf8, ⊎_elim}
use Rattle.std.proofs.Math.Utf8.{encode}
use Rattle.std.proofs.lemmas.Bool.{cases_Bool, cond-true, cond-false, cond_both, eqb-true, eqb-false}
use Rattle.std.proofs.lemmas.List.{take_all}
use Rattle.std.proofs.lemmas.Str.{IsUtf8-append, IsUtf8-from_is_utf8, IsUtf8-nil, utf8_valid_len_le}
use Rattle.std.specs.Str.{is_utf8}
use Rattle.std.specs.Int.{is_in_range}
use Rattle.std.specs.Option.{unwrap_or}
use Rattle.std.specs.Str.Lossy.{after_first_chunk, error_len_after_one, error_len_after_two, error_len_of_some, replacement_bytes, second_byte_max, second_byte_min, utf8_error_len, utf8_invalid_len, utf8_lossy, utf8_lossy_within, utf8_valid_len, valid_len_up_to}

-- the longest front that is text
front_up_to : (bs : List ℕ) (m : ℕ) → IsUtf8 (take (valid_len_up_to bs m) bs)
front_up_to bs zero = IsUtf8-nil
front_up_to bs (suc m) = ⊎_elim
    (λ yes.
    let is : valid_len_up_to bs (suc m) ≡ suc m = cond-true _ _ _ yes in
    subst (λ n. IsUtf8 (take n bs)) (sym is) (IsUtf8-from_is_utf8 _ yes))
    (λ no.
    let is : valid_len_up_to bs (suc m) ≡ valid_len_up_to bs m = cond-false _ _ _ no in
    subst (λ n. IsUtf8 (take n bs)) (sym is) (front_up_to bs m))
    (cases_Bool (is_utf8 (take (suc m) bs)))

front : (bs : List ℕ) → IsUtf8 (take (utf8_valid_len bs) bs)
unfolding utf8_valid_len
front bs = front_up_to bs (length bs)

replacement : IsUtf8 replacement_bytes
unfolding encode
replacement = (65533 ∷ [], (refl, refl))

-- ---- each step takes a byte at least

both : {A : Type 0} (P : A → Type 0) (b : Bool) (x y : A) → P x → P y → P (cond b x y)
both P true x y p q = p
both P false x y p q = q

invalid_some : (bs : List ℕ) → 0 < length bs → 0 < utf8_invalid_len bs
unfolding utf8_error_len
invalid_some bs some =
    let P : Option ℕ → Type 0 = λ o. 0 < unwrap_or o (length bs) in
    let one : P (Some 1) = omega arith in
    let two : P (Some 2) = omega arith in
    let three : P (Some 3) = omega arith in
    let x = slice_index bs 0 in
    let third = is_in_range 0x80 0xBF (slice_index bs 2) in
    let after_three = both P (nat_lt (length bs) 4) None (Some 3) some three in
    let after_two : P (error_len_after_two bs) = both P (nat_lt (length bs) 3) None (cond third (cond (nat_lt (length bs) 4) None (Some 3)) (Some 2)) some
    (both P third (cond (nat_lt (length bs) 4) None (Some 3)) (Some 2) after_three two) in
    let second = is_in_range (second_byte_min x) (second_byte_max x) (slice_index bs 1) in
    let after_one : P (error_len_after_one bs) = both P (nat_lt (length bs) 2) None (cond second (error_len_after_two bs) (Some 1)) some
    (both P second (error_len_after_two bs) (Some 1) after_two one) in
    both P (length bs == 0) None (error_len_of_some bs) some (both P (is_in_range 0xC2 0xF4 x) (error_len_after_one bs) (Some 1) after_one one)

shorter : (bs : List ℕ) → ¬ (utf8_valid_len bs ≡ length bs) → length (after_first_chunk bs) < length bs
shorter bs faulty =
    let n = utf8_valid_len bs in
    let most = utf8_valid_len_le bs in
    let invalid = invalid_some (drop n bs) (omega (arith, length-drop n bs)) in
    omega (arith, length-drop (n + utf8_invalid_len (drop n bs)) bs)

-- ---- the whole

nothing : (bs : List ℕ) → length bs ≤ 0 → IsUtf8 bs
nothing bs h = subst IsUtf8 (take_all 0 bs h) IsUtf8-nil

within : (k : ℕ) (bs : List ℕ) → length bs ≤ k → IsUtf8 (utf8_lossy_within k bs)
within zero bs h = nothing bs h
within (suc k) bs h = cond_both (utf8_valid_len bs == length bs) bs
    (take (utf8_valid_len bs) bs ++ (replacement_bytes ++ utf8_lossy_within k (after_first_chunk bs))) IsUtf8
    (λ whole.
    let all : utf8_valid_len bs ≡ length bs = eqb-true _ _ whole in
    subst IsUtf8 (take_all (utf8_valid_len bs) bs (omega arith)) (front bs))
    (λ faulty.
    let less = shorter bs (eqb-false _ _ faulty) in
    IsUtf8-append _ _ (front bs) (IsUtf8-append _ _ replacement (within k (after_first_chunk bs) (omega arith))))

pub IsUtf8-utf8_lossy : (bs : List ℕ) → IsUtf8 (utf8_lossy bs)
unfolding utf8_lossy
IsUtf8-utf8_lossy bs = within (length bs) bs (omega arith)
