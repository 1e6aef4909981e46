-- A text and its padding.
use Rattle.std.proofs.Common.{◌≡◌, ℕ, ◌+◌, ◌-◌, ◌%◌, List, ◌++◌, length, take, drop, get_or, replicate, refl, sym, ap, ap₂, ◌∙◌, arith, length-append}
use Rattle.std.proofs.Math.Seq.{take-append_seam}
use Rattle.std.proofs.lemmas.List.{length-take-le, drop_at, length-replicate, get_or-append-add, get_or-replicate, take-append-drop}
use Rattle.sn_cbc.specs.Cbc.{padding_count, padded, IsPadded}

pub length-padded : (plain : List ℕ) → length (padded plain) ≡ length plain + padding_count plain
length-padded plain =
    length-append plain (replicate (padding_count plain) (padding_count plain))
    ∙ ap (λ n. length plain + n) (length-replicate (padding_count plain) (padding_count plain))

-- without its padding a text is the plain text of it
pub padded-unpadded : (text : List ℕ) (n : ℕ) → length text % 16 ≡ 0 → IsPadded text n → padded (take (length text - n) text) ≡ text
padded-unpadded text n whole h =
    let long : length (take (length text - n) text) ≡ length text - n = length-take-le (length text - n) text (omega arith) in
    let count : padding_count (take (length text - n) text) ≡ n = ap (λ k. 16 - k % 16) long ∙ omega (arith, whole, h.some, h.block_at_most, h.fits) in
    ap (λ k. take (length text - n) text ++ replicate k k) count
    ∙ ap (λ rest. take (length text - n) text ++ rest) (sym h.same)
    ∙ take-append-drop (length text - n) text

-- a padded text ends in its padding
pub is_padded : (plain : List ℕ) → IsPadded (padded plain) (padding_count plain)
is_padded plain =
    let n = padding_count plain in
    let total = length-padded plain in
    let start : length (padded plain) - n ≡ length plain = omega (arith, total) in
    record {
      some = omega arith;
      block_at_most = omega arith;
      fits = omega (arith, total);
      same = ap (λ k. drop k (padded plain)) start ∙ drop_at plain (replicate n n) (length plain) refl;
    }

last_byte : (plain : List ℕ) → get_or (padded plain) (length (padded plain) - 1) 0 ≡ padding_count plain
last_byte plain =
    let n = padding_count plain in
    let at : length (padded plain) - 1 ≡ length plain + (n - 1) = omega (arith, length-padded plain) in
    ap (λ k. get_or (padded plain) k 0) at
    ∙ get_or-append-add plain (replicate n n) (n - 1) 0
    ∙ get_or-replicate n (n - 1) n 0 (omega arith)

-- a padded text has one plain text
pub padded_injective : (plain other : List ℕ) → padded plain ≡ padded other → plain ≡ other
padded_injective plain other e =
    let counts : padding_count plain ≡ padding_count other =
    sym (last_byte plain) ∙ ap (λ t. get_or t (length t - 1) 0) e ∙ last_byte other in
    let lengths : length plain ≡ length other = omega (arith, length-padded plain, length-padded other, ap length e, counts) in
    sym (take-append_seam plain (replicate (padding_count plain) (padding_count plain)))
    ∙ ap₂ take lengths e
    ∙ take-append_seam other (replicate (padding_count other) (padding_count other))
