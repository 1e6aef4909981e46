-- The words of a key, one after another.
use Rattle.std.proofs.Common.{◌≡◌, ℕ, suc, ◌+◌, ◌-◌, ◌*◌, ◌<◌, List, [], ◌∷◌, ◌++◌, length, take, set, get_or, bit_xor, sym, ap, ap₂, ◌∙◌, add-one, arith}
use Rattle.std.proofs.Math.Seq.{take-suc-set}
use Rattle.std.proofs.lemmas.List.{get_or-take}
use Rattle.std.specs.Int.{w32, from_be_bytes}
use Rattle.sn_aes.specs.Cipher.{added_word, key_words, expanded}

push_word : (ws : List ℕ) (i v : ℕ) → i < length ws → take (i + 1) (set ws i v) ≡ take i ws ++ v ∷ []
push_word ws i v h = ap (λ (n : ℕ). take n (set ws i v)) (add-one i) ∙ take-suc-set ws i v h

pub key_words_more : (key ws : List ℕ) (i v : ℕ) → i < length ws → take i ws ≡ key_words key i
    → v ≡ from_be_bytes w32 (get_or key (4 * i) 0 ∷ get_or key (4 * i + 1) 0 ∷ get_or key (4 * i + 2) 0 ∷ get_or key (4 * i + 3) 0 ∷ [])
    → take (i + 1) (set ws i v) ≡ key_words key (i + 1)
unfolding key_words
key_words_more key ws i v h before e =
    push_word ws i v h ∙ ap₂ (λ (xs : List ℕ) (x : ℕ). xs ++ x ∷ []) before e ∙ sym (ap (key_words key) (add-one i))

pub expanded_more : (key ws : List ℕ) (i a : ℕ) → 8 < i + 1 → i < length ws → take i ws ≡ expanded key (i - 8)
    → a ≡ added_word (get_or ws (i - 1) 0) i
    → take (i + 1) (set ws i (bit_xor (get_or ws (i - 8) 0) a)) ≡ expanded key (i + 1 - 8)
unfolding expanded
expanded_more key ws i a low h before e =
    let n = i - 8 in
    let next : i + 1 - 8 ≡ suc n = omega arith in
    let eight : n + 8 ≡ i = omega arith in
    let seven : n + 7 ≡ i - 1 = omega arith in
    let same : (j : ℕ) → j < i → get_or (expanded key n) j 0 ≡ get_or ws j 0 =
    λ j below. ap (λ (l : List ℕ). get_or l j 0) (sym before) ∙ get_or-take i ws j 0 below in
    let first : get_or (expanded key n) n 0 ≡ get_or ws (i - 8) 0 = same n (omega arith) in
    let last : get_or (expanded key n) (n + 7) 0 ≡ get_or ws (i - 1) 0 =
    ap (λ (j : ℕ). get_or (expanded key n) j 0) seven ∙ same (i - 1) (omega arith) in
    let word : bit_xor (get_or ws (i - 8) 0) a ≡ bit_xor (get_or (expanded key n) n 0) (added_word (get_or (expanded key n) (n + 7) 0) (n + 8)) =
    ap₂ bit_xor (sym first) (e ∙ ap₂ added_word (sym last) (sym eight)) in
    push_word ws i (bit_xor (get_or ws (i - 8) 0) a) h
    ∙ ap₂ (λ (xs : List ℕ) (x : ℕ). xs ++ x ∷ []) before word
    ∙ sym (ap (expanded key) next)
