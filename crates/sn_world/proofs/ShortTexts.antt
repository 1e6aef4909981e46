-- How long the two strings of an item are whose content may be a draft's.
use Rattle.std.proofs.Common.{arith, ◌≡◌, ◌∙◌, sym, ap, refl, ℕ, ◌+◌, ◌-◌, ◌*◌, ◌%◌, ◌≤◌, List, [], ◌∷◌, ◌++◌, length, replicate}
use Rattle.std.proofs.lemmas.List.{append_assoc, length-append, length-replicate}
use Rattle.std.proofs.lemmas.List.Splits.{join_with_byte-slice_split}
use Rattle.hex.specs.Hex.{lower_digits}
use Rattle.hex.proofs.HexLemmas.{length-encode_with}
use Rattle.sn_items.specs.Items.{OpensItem, authentication_half, encryption_half}
use Rattle.sn_items.specs.Opens.{Opens}
use Rattle.sn_items.specs.declared.sealed.Sealed.{Sealed}
use Rattle.sn_string.proofs.Facts.{ciphertext_place, length-base64_text}
use Rattle.sn_string.specs.Base64.{IsBase64, base64_text}
use Rattle.sn_string.specs.Grammar.{Is003, Reading, colon, joined, version}
use Rattle.sn_string.specs.Hex.{IsLowerHex}
use Rattle.sn_string.specs.Refusals.{place_after}
use Rattle.sn_string.specs.declared.params.KeySet.{KeySet}
use Rattle.sn_sync.specs.Versions.{IsShort}

-- a draft's content has so many bytes at most: one that is put or edited has 700,000, and a copy 53 more
abbrev pub longest_draft : ℕ
longest_draft = 700053

-- ---- the six parts

abbrev front_of : Reading → List ℕ
front_of r = joined (version ∷ r.hash ∷ r.uuid ∷ r.iv ∷ r.ciphertext ∷ [])

joined_front : (v h u i c p : List ℕ) → joined (v ∷ h ∷ u ∷ i ∷ c ∷ p ∷ []) ≡ joined (v ∷ h ∷ u ∷ i ∷ c ∷ []) ++ colon ∷ p
joined_front v h u i c p = simp append_assoc

whole : (text : List ℕ) (r : Reading) → Is003 text r → text ≡ front_of r ++ colon ∷ r.params_text
whole text r h =
    sym (join_with_byte-slice_split colon text) ∙ ap joined h.parts ∙ joined_front version r.hash r.uuid r.iv r.ciphertext r.params_text

front_length : (v h u i c : List ℕ) → 139 ≡ place_after (v ∷ h ∷ u ∷ i ∷ []) → length (joined (v ∷ h ∷ u ∷ i ∷ c ∷ [])) ≡ 139 + length c
front_length v h u i c place =
    omega (
      arith,
      place,
      length-append v (colon ∷ (h ++ colon ∷ (u ++ colon ∷ (i ++ colon ∷ c)))),
      length-append h (colon ∷ (u ++ colon ∷ (i ++ colon ∷ c))),
      length-append u (colon ∷ (i ++ colon ∷ c)),
      length-append i (colon ∷ c),
      length-append v (colon ∷ (h ++ colon ∷ (u ++ colon ∷ i))),
      length-append h (colon ∷ (u ++ colon ∷ i)),
      length-append u (colon ∷ i),
    )

-- four characters for three bytes
base64_most : (part bytes : List ℕ) → IsBase64 part bytes → 3 * length part ≤ 4 * length bytes + 8
base64_most part bytes h =
    let long : length part ≡ length (base64_text bytes) = ap length h.spelled in
    omega (arith, long, length-base64_text bytes)

-- ---- what opens

-- three times the length of a string whose ciphertext has so many bytes
parts_most : (text bytes : List ℕ) (r : Reading) → Is003 text r → IsBase64 r.ciphertext bytes → 3 * length text ≤ 4 * length bytes + 25004
parts_most text bytes r h encoded =
    let front : List ℕ = front_of r in
    let last : List ℕ = r.params_text in
    let front_long : length front ≡ 139 + length r.ciphertext =
    front_length version r.hash r.uuid r.iv r.ciphertext (ciphertext_place version r.hash r.uuid r.iv refl h.hash h.uuid h.iv) in
    let encoded_long = base64_most r.ciphertext bytes encoded in
    let long : length text ≡ length front + length (colon ∷ last) = ap length (whole text r h) ∙ length-append front (colon ∷ last) in
    let params_short : length last ≤ 8192 = h.params.short in
    omega (arith, front_long, encoded_long, long, params_short)

opened_most : (text uuid encryption_key authentication_key plain : List ℕ) → Opens text uuid encryption_key authentication_key plain
    → 3 * length text ≤ 4 * (length plain + 16) + 25004
opened_most text uuid encryption_key authentication_key plain h =
    let d = h.decrypts in
    let added : ℕ = 16 - length plain % 16 in
    let same : length d.bytes ≡ length (plain ++ replicate added added) = d.cbc.same_length in
    let long : length d.bytes ≡ length plain + added =
    same ∙ length-append plain (replicate added added) ∙ ap (λ n. length plain + n) (length-replicate added added) in
    let few : added ≤ 16 = omega arith in
    let most = parts_most text d.bytes h.reading h.authentic.names.reads d.bytes_are in
    omega (arith, long, few, most)

digits_length : (digits key : List ℕ) → IsLowerHex 64 digits key → length digits ≡ 128
digits_length digits key h = ap length h.spelled ∙ length-encode_with lower_digits key ∙ ap (λ n. 2 * n) h.count

-- both strings are short enough for a server
pub short_item : (sealed : Sealed) (uuid text : List ℕ) (set : KeySet) → OpensItem sealed uuid set text → length text ≤ longest_draft
    → IsShort sealed.content × IsShort sealed.enc
short_item sealed uuid text set h short =
    let content = opened_most sealed.content uuid (encryption_half h.key) (authentication_half h.key) text h.opens in
    let enc = opened_most sealed.enc uuid set.mk set.ak h.enc.digits h.enc.opens in
    let digits = digits_length h.enc.digits h.key h.enc.spelled in
    (omega (arith, content, short), omega (arith, enc, digits))
