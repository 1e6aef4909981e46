-- A base64 text in pieces: cut at whole groups, each piece is the base64 of a piece of the bytes.
use Rattle.std.proofs.Common.{arith, ◌≡◌, ◌∙◌, sym, ap, subst, ℕ, zero, suc, ◌+◌, ◌*◌, ◌<◌, ◌≤◌, ◌%◌, List, [], ◌∷◌, ◌++◌, length, take, drop, refl, Option, Some, None, Ok, Err, true, eq-eqb, not, ◌==◌}
use Rattle.std.specs.Prelude.{IfSome, IfNone}
use Rattle.std.specs.Option.{option_eq}
use Rattle.std.proofs.lemmas.Bool.{eqb-true}
use lib.Dec.{eqb}
use Rattle.std.proofs.lemmas.List.{take-append-drop, take_at, drop_at, length-append, length-drop, length-take-le}
use Rattle.std.proofs.Math.Seq.{take-add}
use Rattle.base64.specs.Engines.{standard}
use Rattle.base64.specs.GeneralPurpose.{IsBytes, decode_of}
use Rattle.base64.specs.declared.decode.DecodeError.{DecodeError}
use Rattle.base64.proofs.EngineFacts.{encode_of-append, encode_of-nil, front_bytes, decode_of_strict}
use Rattle.sn_string.specs.Base64.{IsBase64, base64_text}
use Rattle.sn_string.specs.Grammar.{IsCiphertext}
use Rattle.sn_string.proofs.Base64Facts.{length-base64_text, same_bytes, decode_of-base64}

IsBytes-append : (a b : List ℕ) → IsBytes a → IsBytes b → IsBytes (a ++ b)
IsBytes-append [] b h k i = k i
IsBytes-append (x ∷ a) b h k zero = h 0
IsBytes-append (x ∷ a) b h k (suc i) = IsBytes-append a b (λ j. h (suc j)) k i

back_bytes : (a b : List ℕ) → IsBytes (a ++ b) → IsBytes b
back_bytes [] b h = h
back_bytes (x ∷ a) b h = back_bytes a b (λ j. h (suc j))

pub IsBase64-nil : IsBase64 [] []
IsBase64-nil = record { fit = λ i. omega arith; spelled = sym (encode_of-nil standard) }

-- whole groups in front
pub IsBase64-append : (s t a b : List ℕ) → IsBase64 s a → length a % 3 ≡ 0 → IsBase64 t b → IsBase64 (s ++ t) (a ++ b)
IsBase64-append s t a b h whole k = record {
  fit = IsBytes-append a b h.fit k.fit;
  spelled = rw (h.spelled, k.spelled) (sym (encode_of-append standard a b whole));
}

-- a text cut after some whole groups
pub record IsCut (text bytes : List ℕ) (groups : ℕ) : Type 0 where
  pub front : IsBase64 (take (4 * groups) text) (take (3 * groups) bytes)
  pub back : IsBase64 (drop (4 * groups) text) (drop (3 * groups) bytes)

pub cut : (text bytes : List ℕ) (groups : ℕ) → IsBase64 text bytes → 3 * groups ≤ length bytes → IsCut text bytes groups
cut text bytes groups h within =
    let a : List ℕ = take (3 * groups) bytes in
    let b : List ℕ = drop (3 * groups) bytes in
    let both : a ++ b ≡ bytes = take-append-drop (3 * groups) bytes in
    let count : length a ≡ 3 * groups = length-take-le (3 * groups) bytes within in
    let text_is : text ≡ base64_text a ++ base64_text b =
    h.spelled ∙ ap base64_text (sym both) ∙ encode_of-append standard a b (omega (arith, count)) in
    let long : length (base64_text a) ≡ 4 * groups = omega (arith, length-base64_text a, count) in
    let fit : IsBytes (a ++ b) = subst IsBytes (sym both) h.fit in
    record {
      front = record { fit = front_bytes a b fit; spelled = ap (take (4 * groups)) text_is ∙ take_at (base64_text a) (base64_text b) (4 * groups) long };
      back = record { fit = back_bytes a b fit; spelled = ap (drop (4 * groups)) text_is ∙ drop_at (base64_text a) (base64_text b) (4 * groups) long };
    }

-- so many whole groups before a place that more text follows
pub groups_within : (text bytes : List ℕ) (groups : ℕ) → IsBase64 text bytes → 4 * groups < length text → 3 * groups < length bytes
groups_within text bytes groups h before =
    let long : length text ≡ length (base64_text bytes) = ap length h.spelled in
    omega (arith, long, length-base64_text bytes)

-- what the pieces before a place stand for
pub record IsFront (text : List ℕ) (done count : ℕ) : Type 0 where
  pub groups : ℕ
  pub done_is : done ≡ 4 * groups
  pub count_is : count ≡ 3 * groups
  pub within : done ≤ length text
  pub inside : 0 < done → done < length text
  pub bytes : List ℕ
  pub encoded : IsBase64 (take done text) bytes
  pub long : length bytes ≡ count

pub IsFront-nil : (text : List ℕ) → IsFront text 0 0
IsFront-nil text = record {
  groups = 0;
  done_is = refl;
  count_is = refl;
  within = omega arith;
  inside = λ h. absurd (omega arith);
  bytes = [];
  encoded = IsBase64-nil;
  long = refl;
}

-- one more piece
pub IsFront-more : (text piece bytes : List ℕ) (done count : ℕ) → IsFront text done count → piece ≡ take 1024 (drop done text)
    → done + 1024 < length text → IsBase64 piece bytes → length bytes ≡ 768 → IsFront text (done + 1024) (count + 768)
IsFront-more text piece bytes done count h piece_is more encoded long =
    let text_is : take (done + 1024) text ≡ take done text ++ piece = rw piece_is (take-add done 1024 text) in
    let P : List ℕ → Type 0 = λ t. IsBase64 t (h.bytes ++ bytes) in
    record {
      groups = h.groups + 256;
      done_is = omega (arith, h.done_is);
      count_is = omega (arith, h.count_is);
      within = omega arith;
      inside = λ _. more;
      bytes = h.bytes ++ bytes;
      encoded = subst P (sym text_is) (IsBase64-append (take done text) piece h.bytes bytes h.encoded (omega (arith, h.long, h.count_is)) encoded);
      long = omega (arith, length-append h.bytes bytes, h.long, long);
    }

-- the last piece
pub IsBase64-last : (text last bytes : List ℕ) (done count : ℕ) → IsFront text done count → last ≡ drop done text
    → IsBase64 last bytes → (all : List ℕ) × IsBase64 text all × (length all ≡ count + length bytes)
IsBase64-last text last bytes done count h last_is encoded =
    let text_is : take done text ++ last ≡ text = rw last_is (take-append-drop done text) in
    let P : List ℕ → Type 0 = λ t. IsBase64 t (h.bytes ++ bytes) in (
      h.bytes ++ bytes,
      subst P text_is (IsBase64-append (take done text) last h.bytes bytes h.encoded (omega (arith, h.long, h.count_is)) encoded),
      omega (arith, length-append h.bytes bytes, h.long),
    )

count_within : (text all : List ℕ) (done count : ℕ) → IsFront text done count → IsBase64 text all → count ≤ length all
count_within text all zero count h encoded = omega (arith, h.done_is, h.count_is)
count_within text all (suc n) count h encoded =
    let before : suc n < length text = h.inside (omega arith) in
    let within = groups_within text all h.groups encoded (omega (arith, h.done_is)) in
    omega (arith, h.count_is)

-- where a text is base64, so is what is left of it
pub rest_of : (text all : List ℕ) (done count : ℕ) → IsFront text done count → IsBase64 text all
    → IsBase64 (drop done text) (drop count all)
rest_of text all done count h encoded =
    let within = count_within text all done count h encoded in
    rw (h.done_is, h.count_is) (cut text all h.groups encoded (omega (arith, h.count_is))).back

-- and a piece with more text after it stands for 768 bytes
pub piece_of : (text all piece : List ℕ) (done count : ℕ) → IsFront text done count → IsBase64 text all → piece ≡ take 1024 (drop done text)
    → done + 1024 < length text → (bytes : List ℕ) × IsBase64 piece bytes × (length bytes ≡ 768)
piece_of text all piece done count h encoded piece_is more =
    let rest = rest_of text all done count h encoded in
    let left : 1024 < length (drop done text) = omega (arith, length-drop done text) in
    let few = groups_within (drop done text) (drop count all) 256 rest left in
    let P : List ℕ → Type 0 = λ t. IsBase64 t (take 768 (drop count all)) in (
      take 768 (drop count all),
      subst P (sym piece_is) (cut (drop done text) (drop count all) 256 rest (omega arith)).front,
      length-take-le 768 (drop count all) (omega arith),
    )

-- what a count of a piece's bytes says
abbrev pub Counts : List ℕ → ℕ → Type 0
Counts piece count = (bytes : List ℕ) × IsBase64 piece bytes × (length bytes ≡ count)

abbrev pub IsNoBase64 : List ℕ → Type 0
IsNoBase64 piece = (bytes : List ℕ) → ¬ (IsBase64 piece bytes)

-- the count of a piece with these bytes is their number
pub counted : (piece bytes : List ℕ) (found : Option ℕ) → IfSome found (Counts piece) → IfNone found (IsNoBase64 piece)
    → IsBase64 piece bytes → found ≡ Some (length bytes)
counted piece bytes None some none encoded = absurd (none bytes encoded)
counted piece bytes (Some n) some none encoded =
    let same = same_bytes piece some.0 bytes some.1 encoded in
    ap Some (sym some.2 ∙ ap length same)

pub option_eq-some : (found : Option ℕ) (n : ℕ) → option_eq eqb found (Some n) ≡ true → found ≡ Some n
option_eq-some None n h = cc
option_eq-some (Some m) n h = ap Some (eqb-true m n h)

pub other_option : (found : Option ℕ) (n : ℕ) → not (option_eq eqb found (Some n)) ≡ true → found ≡ Some n → ⊥
other_option found n h is =
    let same : option_eq eqb found (Some n) ≡ true = rw is (eq-eqb n n refl) in
    cc

-- what the decoder wrote is what the text stands for
pub IsBase64-decoded : (text new : List ℕ) (n : ℕ) → IsBytes text → IsBytes new → decode_of standard text ≡ Ok (take n new) → IsBase64 text (take n new)
IsBase64-decoded text new n bytes fit ok =
    let front : IsBytes (take n new) = front_bytes (take n new) (drop n new) (subst IsBytes (sym (take-append-drop n new)) fit) in
    record { fit = front; spelled = decode_of_strict standard text (take n new) (refl, refl) bytes ok }

-- of a piece of known bytes the decoder says how many
pub decoded : (text new : List ℕ) (n : ℕ) → IsBytes text → IsBytes new → n ≤ length new → decode_of standard text ≡ Ok (take n new) → Counts text n
decoded text new n bytes fit within ok = (take n new, IsBase64-decoded text new n bytes fit ok, length-take-le n new within)

pub refused : (text : List ℕ) (e : DecodeError) → decode_of standard text ≡ Err e → IsNoBase64 text
refused text e err bytes encoded =
    let ok = decode_of-base64 text bytes encoded in
    cc

-- a piece with more text after it that isn't counted as 768 refuses the whole
pub not_whole : (text piece : List ℕ) (done count : ℕ) (found : Option ℕ) → IsFront text done count → piece ≡ take 1024 (drop done text)
    → done + 1024 < length text → IfSome found (Counts piece) → IfNone found (IsNoBase64 piece) → (found ≡ Some 768 → ⊥) → IsNoBase64 text
not_whole text piece done count found h piece_is more some none other all encoded =
    let whole = piece_of text all piece done count h encoded piece_is more in
    other (counted piece whole.0 found some none whole.1 ∙ ap Some whole.2)

-- one that is goes to the front
pub more_front : (text piece : List ℕ) (done count : ℕ) (found : Option ℕ) → IsFront text done count → piece ≡ take 1024 (drop done text)
    → done + 1024 < length text → IfSome found (Counts piece) → found ≡ Some 768 → IsFront text (done + 1024) (count + 768)
more_front text piece done count found h piece_is more some is =
    let counts : Counts piece 768 = rw is at some in
    IsFront-more text piece counts.0 done count h piece_is more counts.1 counts.2

pub last_counted : (text last : List ℕ) (done count n : ℕ) → IsFront text done count → last ≡ drop done text → Counts last n → Counts text (count + n)
last_counted text piece done count n h is last =
    let whole = IsBase64-last text piece last.0 done count h is last.1 in
    (whole.0, whole.1, whole.2 ∙ ap (λ k. count + k) last.2)

pub last_refused : (text last : List ℕ) (done count : ℕ) → IsFront text done count → last ≡ drop done text → IsNoBase64 last → IsNoBase64 text
last_refused text last done count h is none all encoded =
    let P : List ℕ → Type 0 = λ t. IsBase64 t (drop count all) in
    none (drop count all) (subst P (sym is) (rest_of text all done count h encoded))

-- ---- ciphertexts

pub IsCiphertext-counted : (text piece : List ℕ) (n : ℕ) → piece ≡ text → Counts piece n → 0 < n → (n % 16 == 0) ≡ true → IsCiphertext text
IsCiphertext-counted text piece n is counts some whole =
    let P : List ℕ → Type 0 = λ t. IsBase64 t counts.0 in
    let blocks : n % 16 ≡ 0 = eqb-true (n % 16) 0 whole in
    record {
      bytes = counts.0;
      encoded = subst P is counts.1;
      some = omega (arith, counts.2);
      whole = rw counts.2 blocks;
    }

pub counted-IsCiphertext : (text piece : List ℕ) (n : ℕ) → piece ≡ text → Counts piece n → IsCiphertext text → (0 < n) × ((n % 16 == 0) ≡ true)
counted-IsCiphertext text piece n is counts h =
    let P : List ℕ → Type 0 = λ t. IsBase64 t counts.0 in
    let count : length h.bytes ≡ n = ap length (same_bytes text h.bytes counts.0 h.encoded (subst P is counts.1)) ∙ counts.2 in
    (omega (arith, count, h.some), eq-eqb (n % 16) 0 (rw count at h.whole))
