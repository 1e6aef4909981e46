-- What the loops over the blocks keep.
use Rattle.std.proofs.Common.{◌≡◌, ℕ, zero, suc, ◌+◌, ◌*◌, ◌/◌, ◌%◌, ◌<◌, ◌≤◌, List, ◌++◌, length, take, drop, refl, sym, ap, ap₂, ◌∙◌, add-one, arith, below_more}
use Rattle.std.proofs.lemmas.List.{drop-drop}
use Rattle.sn_aes.specs.Cipher.{aes256, xor_bytes}
use Rattle.sn_aes.proofs.Facts.{xor_bytes_cancel}
use Rattle.sn_cbc.specs.Cbc.{block_of, block_before, IsChained}
use Rattle.sn_cbc.proofs.BlockLemmas.{before_write, at_write, after_write}

-- the first i blocks of `now` are the ciphertext of those of the text, and the rest is the text's
pub record Encrypted (key iv text now last : List ℕ) (i : ℕ) : Type 0 where
  pub long : length now ≡ length text
  pub rest : drop (16 * i) now ≡ drop (16 * i) text
  pub last_is : last ≡ block_before iv now i
  pub blocks : (n : ℕ) → n < i → block_of now n ≡ aes256 key (xor_bytes (block_of text n) (block_before iv now n))

pub started : (key iv text : List ℕ) → Encrypted key iv text text iv 0
started key iv text = record { long = refl; rest = refl; last_is = refl; blocks = λ n h. absurd (omega (arith, h)) }

-- a block of a text into which block i was written
kept : (now block rest : List ℕ) (i n : ℕ) → n < i → 16 * i ≤ length now
    → block_of (take (16 * i) now ++ (block ++ rest)) n ≡ block_of now n
kept now block rest i n low high = before_write (16 * i) (16 * n) now (block ++ rest) (omega (arith, low)) high

kept_before : (iv now block rest : List ℕ) (i n : ℕ) → n < i + 1 → 16 * i ≤ length now
    → block_before iv (take (16 * i) now ++ (block ++ rest)) n ≡ block_before iv now n
kept_before iv now block rest i zero low high = refl
kept_before iv now block rest i (suc n) low high = kept now block rest i n (omega (arith, low)) high

next_rest : (now block text : List ℕ) (i : ℕ) → 16 * i ≤ length now → length block ≡ 16 → drop (16 * i) now ≡ drop (16 * i) text
    → drop (16 * (i + 1)) (take (16 * i) now ++ (block ++ drop (16 * i + 16) now)) ≡ drop (16 * (i + 1)) text
next_rest now block text i high long same =
    let at : 16 * (i + 1) ≡ 16 * i + 16 = omega arith in
    let new = take (16 * i) now ++ (block ++ drop (16 * i + 16) now) in
    ap (λ n. drop n new) at ∙ after_write (16 * i) now block (drop (16 * i + 16) now) high long
    ∙ sym (drop-drop 16 (16 * i) now) ∙ ap (drop 16) same ∙ drop-drop 16 (16 * i) text ∙ ap (λ n. drop n text) (sym at)

-- one block more
pub encrypted_more : (key iv text now last next new : List ℕ) (i : ℕ) → Encrypted key iv text now last i
    → 16 * i + 16 ≤ length now → length next ≡ 16
    → next ≡ aes256 key (xor_bytes (take 16 (drop (16 * i) now)) last)
    → new ≡ take (16 * i) now ++ (next ++ drop (16 * i + 16) now) → length new ≡ length now
    → Encrypted key iv text new next (i + 1)
encrypted_more key iv text now last next new i e high long is new_is same =
    let rest = drop (16 * i + 16) now in
    let written = take (16 * i) now ++ (next ++ rest) in
    let low : 16 * i ≤ length now = omega (arith, high) in
    let here : block_of new i ≡ next = ap (λ t. block_of t i) new_is ∙ at_write (16 * i) now next rest low long in
    let before : (n : ℕ) → n < i + 1 → block_before iv new n ≡ block_before iv now n =
    λ n h. ap (λ t. block_before iv t n) new_is ∙ kept_before iv now next rest i n h low in
    record {
      long = same ∙ e.long;
      rest = ap (drop (16 * (i + 1))) new_is ∙ next_rest now next text i low long e.rest;
      last_is = sym here ∙ ap (block_before iv new) (sym (add-one i));
      blocks = below_more _ _
          (λ n h. ap (λ t. block_of t n) new_is ∙ kept now next rest i n h low ∙ e.blocks n h
          ∙ ap (λ b. aes256 key (xor_bytes (block_of text n) b)) (sym (before n (omega (arith, h)))))
          (here ∙ is ∙ ap (aes256 key) (ap₂ xor_bytes (ap (take 16) e.rest) (e.last_is ∙ sym (before i (omega arith)))));
    }

-- all blocks
pub encrypted_all : (key iv text now last : List ℕ) (i : ℕ) → Encrypted key iv text now last i
    → length text % 16 ≡ 0 → i ≡ length text / 16 → IsChained key iv text now
encrypted_all key iv text now last i e whole end =
    record { whole = whole; same_length = e.long; blocks = λ n h. e.blocks n (omega (arith, whole, end, h)) }

-- the first i blocks of `now` are the text of those of the ciphertext, and the rest is the ciphertext's
pub record Decrypted (key iv bytes now last : List ℕ) (i : ℕ) : Type 0 where
  pub long : length now ≡ length bytes
  pub rest : drop (16 * i) now ≡ drop (16 * i) bytes
  pub last_long : length last ≡ 16
  pub last_is : last ≡ block_before iv bytes i
  pub blocks : (n : ℕ) → n < i → block_of bytes n ≡ aes256 key (xor_bytes (block_of now n) (block_before iv bytes n))

pub begun : (key iv bytes : List ℕ) → length iv ≡ 16 → Decrypted key iv bytes bytes iv 0
begun key iv bytes iv_long = record { long = refl; rest = refl; last_long = iv_long; last_is = refl; blocks = λ n h. absurd (omega (arith, h)) }

-- one block more
pub decrypted_more : (key iv bytes now last block decrypted plain new : List ℕ) (i : ℕ) → Decrypted key iv bytes now last i
    → 16 * i + 16 ≤ length now → length decrypted ≡ 16 → length block ≡ 16 → length plain ≡ 16
    → block ≡ take 16 (drop (16 * i) now) → aes256 key decrypted ≡ block → plain ≡ xor_bytes decrypted last
    → new ≡ take (16 * i) now ++ (plain ++ drop (16 * i + 16) now) → length new ≡ length now
    → Decrypted key iv bytes new block (i + 1)
decrypted_more key iv bytes now last block decrypted plain new i e high long block_long plain_long block_is cipher_is plain_is new_is same =
    let rest = drop (16 * i + 16) now in
    let low : 16 * i ≤ length now = omega (arith, high) in
    let here : block_of new i ≡ plain = ap (λ t. block_of t i) new_is ∙ at_write (16 * i) now plain rest low plain_long in
    let cipher_block : block ≡ block_of bytes i = block_is ∙ ap (take 16) e.rest in
    let whole : xor_bytes plain last ≡ decrypted = ap (λ b. xor_bytes b last) plain_is
    ∙ xor_bytes_cancel decrypted last (omega (arith, long, e.last_long)) in
    record {
      long = same ∙ e.long;
      rest = ap (drop (16 * (i + 1))) new_is ∙ next_rest now plain bytes i low plain_long e.rest;
      last_long = block_long;
      last_is = cipher_block ∙ ap (block_before iv bytes) (sym (add-one i));
      blocks = below_more _ _
          (λ n h. e.blocks n h ∙ ap (λ b. aes256 key (xor_bytes b (block_before iv bytes n)))
          (sym (ap (λ t. block_of t n) new_is ∙ kept now plain rest i n h low)))
          (sym cipher_block ∙ sym cipher_is ∙ ap (aes256 key) (sym whole ∙ ap₂ xor_bytes (sym here) e.last_is));
    }

pub decrypted_all : (key iv bytes now last : List ℕ) (i : ℕ) → Decrypted key iv bytes now last i
    → length bytes % 16 ≡ 0 → i ≡ length bytes / 16 → IsChained key iv now bytes
decrypted_all key iv bytes now last i e whole end =
    let same : length now % 16 ≡ 0 = ap (λ n. n % 16) e.long ∙ whole in
    record { whole = same; same_length = sym e.long; blocks = λ n h. e.blocks n (omega (arith, e.long, whole, end, h)) }
