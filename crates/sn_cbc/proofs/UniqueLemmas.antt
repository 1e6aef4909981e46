-- What a chain of blocks fixes.
use Rattle.std.proofs.Common.{◌≡◌, ℕ, zero, suc, ◌+◌, ◌*◌, ◌/◌, ◌%◌, ◌<◌, ◌≤◌, List, length, take, drop, get_or, replicate, sym, ap, ◌∙◌, arith, inl, inr}
use Rattle.std.proofs.lemmas.List.{length-take, length-take-le, length-drop, get_or-take, get_or-drop, get_or_past, ext_get_or, get_or-replicate, length-replicate}
use Rattle.std.proofs.lemmas.Bool.{cases_lt}
use Rattle.sn_aes.specs.Cipher.{aes256, xor_bytes}
use Rattle.sn_aes.proofs.Facts.{aes256_injective, append_small, length-xor_bytes, xor_bytes_cancel, xor_bytes_small}
use Rattle.sn_cbc.specs.Cbc.{block_of, block_before, IsChained, padded, padding_count, AreBytes}

length-block_of : (text : List ℕ) (n : ℕ) → 16 * n + 16 ≤ length text → length (block_of text n) ≡ 16
length-block_of text n h = length-take-le 16 (drop (16 * n) text) (omega (arith, length-drop (16 * n) text, h))

-- a byte of a text is one of a block
byte_of_block : (text : List ℕ) (k : ℕ) → get_or (block_of text (k / 16)) (k % 16) 0 ≡ get_or text k 0
byte_of_block text k =
    get_or-take 16 (drop (16 * (k / 16)) text) (k % 16) 0 (omega arith)
    ∙ get_or-drop (16 * (k / 16)) text (k % 16) 0
    ∙ ap (λ j. get_or text j 0) (omega arith)

-- texts of the same blocks are the same
same_blocks : (text other : List ℕ) → length text ≡ length other → length text % 16 ≡ 0
    → ((n : ℕ) → 16 * n < length text → block_of text n ≡ block_of other n) → text ≡ other
same_blocks text other long whole same =
    ext_get_or 0 text other long (λ k h.
    sym (byte_of_block text k)
    ∙ ap (λ b. get_or b (k % 16) 0) (same (k / 16) (omega (arith, h)))
    ∙ byte_of_block other k)

block_bytes : (text : List ℕ) (n : ℕ) → AreBytes text → AreBytes (block_of text n)
block_bytes text n small k =
    elim (cases_lt k 16) [
      | inl low ↦ rw (get_or-take 16 (drop (16 * n) text) k 0 low, get_or-drop (16 * n) text k 0) (small (16 * n + k))
      | inr high ↦ rw (get_or_past (take 16 (drop (16 * n) text)) k 0 (omega (arith, length-take 16 (drop (16 * n) text), high))) (omega arith)
    ]

before_long : (iv bytes : List ℕ) (n : ℕ) → length iv ≡ 16 → 16 * n ≤ length bytes → length (block_before iv bytes n) ≡ 16
before_long iv bytes zero iv_long h = iv_long
before_long iv bytes (suc n) iv_long h = length-block_of bytes n (omega (arith, h))

before_bytes : (iv bytes : List ℕ) (n : ℕ) → AreBytes iv → AreBytes bytes → AreBytes (block_before iv bytes n)
before_bytes iv bytes zero iv_small small = iv_small
before_bytes iv bytes (suc n) iv_small small = block_bytes bytes n small

-- a ciphertext has one text
pub one_text : (key iv text other bytes : List ℕ) → length iv ≡ 16 → AreBytes iv → AreBytes bytes → AreBytes text → AreBytes other
    → IsChained key iv text bytes → IsChained key iv other bytes → text ≡ other
one_text key iv text other bytes iv_long iv_small bytes_small text_small other_small t u =
    let long : length text ≡ length other = sym t.same_length ∙ u.same_length in
    same_blocks text other long t.whole (λ n h.
    let here : 16 * n + 16 ≤ length text = omega (arith, t.whole, h) in
    let prior : length (block_before iv bytes n) ≡ 16 = before_long iv bytes n iv_long (omega (arith, t.same_length, h)) in
    let prior_small = before_bytes iv bytes n iv_small bytes_small in
    let first : length (block_of text n) ≡ 16 = length-block_of text n here in
    let second : length (block_of other n) ≡ 16 = length-block_of other n (omega (arith, long, here)) in
    let first_fits : length (block_of text n) ≤ length (block_before iv bytes n) = omega (arith, first, prior) in
    let second_fits : length (block_of other n) ≤ length (block_before iv bytes n) = omega (arith, second, prior) in
    let sums = aes256_injective key (xor_bytes (block_of text n) (block_before iv bytes n)) (xor_bytes (block_of other n) (block_before iv bytes n)) (
      length-xor_bytes (block_of text n) (block_before iv bytes n) first_fits ∙ first,
      xor_bytes_small (block_of text n) (block_before iv bytes n) (block_bytes text n text_small) prior_small,
    ) (
      length-xor_bytes (block_of other n) (block_before iv bytes n) second_fits ∙ second,
      xor_bytes_small (block_of other n) (block_before iv bytes n) (block_bytes other n other_small) prior_small,
    )
    (sym (t.blocks n h) ∙ u.blocks n (omega (arith, long, h))) in
    sym (xor_bytes_cancel (block_of text n) (block_before iv bytes n) first_fits)
    ∙ ap (λ s. xor_bytes s (block_before iv bytes n)) sums
    ∙ xor_bytes_cancel (block_of other n) (block_before iv bytes n) second_fits)

same_ciphertext : (key iv text bytes other : List ℕ) → IsChained key iv text bytes → IsChained key iv text other
    → (n : ℕ) → 16 * n < length text → block_of bytes n ≡ block_of other n
same_ciphertext key iv text bytes other t u zero h = t.blocks 0 h ∙ sym (u.blocks 0 h)
same_ciphertext key iv text bytes other t u (suc n) h =
    t.blocks (suc n) h
    ∙ ap (λ b. aes256 key (xor_bytes (block_of text (suc n)) b)) (same_ciphertext key iv text bytes other t u n (omega (arith, h)))
    ∙ sym (u.blocks (suc n) h)

-- a text has one ciphertext
pub one_ciphertext : (key iv text bytes other : List ℕ) → IsChained key iv text bytes → IsChained key iv text other → bytes ≡ other
one_ciphertext key iv text bytes other t u =
    same_blocks bytes other (t.same_length ∙ sym u.same_length) (ap (λ n. n % 16) t.same_length ∙ t.whole)
    (λ n h. same_ciphertext key iv text bytes other t u n (omega (arith, t.same_length, h)))

repeated_bytes : (n : ℕ) → n ≤ 16 → AreBytes (replicate n n)
repeated_bytes n few k =
    elim (cases_lt k n) [
      | inl low ↦ rw (get_or-replicate n k n 0 low) (omega (arith, few))
      | inr high ↦ rw (get_or_past (replicate n n) k 0 (omega (arith, length-replicate n n, high))) (omega arith)
    ]

pub padded_bytes : (plain : List ℕ) → AreBytes plain → AreBytes (padded plain)
padded_bytes plain small = append_small plain (replicate (padding_count plain) (padding_count plain)) small (repeated_bytes (padding_count plain) (omega arith))
