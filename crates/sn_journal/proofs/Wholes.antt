-- One batch of a file.
use Rattle.std.proofs.Common.{◌≡◌, ◌≤◌, ◌<◌, ◌^◌, ℕ, zero, suc, ◌+◌, ◌*◌, List, [], ◌∷◌, ◌++◌, length, take, drop, slice_index_or, refl, sym, ◌∙◌, ap, arith, length-take, take-append-drop}
use Rattle.std.specs.Int.{w32, to_be_bytes}
use Rattle.std.proofs.lemmas.Nat.{be_bytes_4}
use Rattle.sn_journal.specs.Image.{counted, batch}
use Rattle.sn_journal.specs.Reading.{IsWhole}

small_each : (a b c d : ℕ) → a < 256 → b < 256 → c < 256 → d < 256 → (i : ℕ) → slice_index_or (a ∷ b ∷ c ∷ d ∷ []) i 0 < 256
small_each a b c d la lb lc ld zero = la
small_each a b c d la lb lc ld (suc zero) = lb
small_each a b c d la lb lc ld (suc (suc zero)) = lc
small_each a b c d la lb lc ld (suc (suc (suc zero))) = ld
small_each a b c d la lb lc ld (suc (suc (suc (suc i)))) = omega arith

pub whole : (bytes : List ℕ) (size : ℕ) → 5 ≤ length bytes → ((i : ℕ) → slice_index_or bytes i 0 < 256) → slice_index_or bytes 0 0 ≡ 1 → size ≡ slice_index_or bytes 1 0 * 16777216 + slice_index_or bytes 2 0 * 65536 + slice_index_or bytes 3 0 * 256 + slice_index_or bytes 4 0 → 5 + size ≤ length bytes → size ≤ 2 ^ 30 → IsWhole bytes size
unfolding counted
whole [] size long bounds gate is within small = absurd (omega arith)
whole (g ∷ []) size long bounds gate is within small = absurd (omega arith)
whole (g ∷ a ∷ []) size long bounds gate is within small = absurd (omega arith)
whole (g ∷ a ∷ b ∷ []) size long bounds gate is within small = absurd (omega arith)
whole (g ∷ a ∷ b ∷ c ∷ []) size long bounds gate is within small = absurd (omega arith)
whole (g ∷ a ∷ b ∷ c ∷ d ∷ after) size long bounds gate is within small =
    let fits : size ≤ length after = omega arith in
    let n : length (take size after) ≡ size = omega (arith, length-take size after) in
    let number : to_be_bytes w32 size ≡ a ∷ b ∷ c ∷ d ∷ [] = be_bytes_4 (a ∷ b ∷ c ∷ d ∷ []) size refl (small_each a b c d (bounds 1) (bounds 2) (bounds 3) (bounds 4)) is in
    let front : counted (take size after) ≡ a ∷ b ∷ c ∷ d ∷ take size after = ap (λ (k : ℕ). to_be_bytes w32 k ++ take size after) n ∙ ap (λ (l : List ℕ). l ++ take size after) number in
    record {
      within = within;
      small = small;
      split = ap (λ (x : ℕ). x ∷ a ∷ b ∷ c ∷ d ∷ after) gate ∙ ap (λ (l : List ℕ). 1 ∷ a ∷ b ∷ c ∷ d ∷ l) (sym (take-append-drop size after)) ∙ ap (λ (l : List ℕ). (1 ∷ l) ++ drop size after) (sym front) ∙ ap (λ (l : List ℕ). batch (take size after) ++ l) behind;
    }
  where
    behind : drop size after ≡ drop (5 + size) (g ∷ a ∷ b ∷ c ∷ d ∷ after)
    behind = let five : 5 + size ≡ suc (suc (suc (suc (suc size)))) = omega arith in sym (ap (λ (k : ℕ). drop k (g ∷ a ∷ b ∷ c ∷ d ∷ after)) five)
