-- A version's strings are kept about as long as they are given, also where they are sealed again under the present set.
use Rattle.std.proofs.Common.{arith, ◌≡◌, ◌∙◌, sym, ap, subst, refl, ℕ, ◌+◌, ◌-◌, ◌*◌, ◌%◌, ◌≤◌, List, [], ◌∷◌, ◌++◌, length, replicate, inl, inr}
use Rattle.std.proofs.lemmas.List.{append_assoc, length-append, length-replicate}
use Rattle.std.proofs.lemmas.List.Splits.{join_with_byte-slice_split}
use Rattle.hex.specs.Hex.{lower_digits}
use Rattle.hex.proofs.HexLemmas.{length-encode_with}
use Rattle.sn_items.specs.Items.{OpensItem, authentication_half, encryption_half}
use Rattle.sn_items.specs.Opens.{Opens}
use Rattle.sn_items.specs.declared.sealed.Sealed.{Sealed}
use Rattle.sn_sets.specs.Sets.{sealed_of}
use Rattle.sn_sets.specs.declared.sets.Sets.{Sets}
use Rattle.sn_string.proofs.Facts.{ciphertext_place, length-base64_text}
use Rattle.sn_string.specs.Base64.{IsBase64, base64_text}
use Rattle.sn_string.specs.Grammar.{Is003, Reading, colon, joined, version}
use Rattle.sn_string.specs.Hex.{IsLowerHex}
use Rattle.sn_string.specs.Refusals.{place_after}
use Rattle.sn_string.specs.declared.params.KeySet.{KeySet}
use Rattle.sn_world.proofs.RowSizes.{strings_size}
use Rattle.sn_world.proofs.TakenSizes.{KeepsWeight}

-- ---- the six parts

abbrev front_of : Reading → List ℕ
front_of r = joined (version ∷ r.hash ∷ r.uuid ∷ r.iv ∷ r.ciphertext ∷ [])

joined_front : (v h u i c p : List ℕ) → joined (v ∷ h ∷ u ∷ i ∷ c ∷ p ∷ []) ≡ joined (v ∷ h ∷ u ∷ i ∷ c ∷ []) ++ colon ∷ p
joined_front v h u i c p = simp append_assoc

whole : (text : List ℕ) (r : Reading) → Is003 text r → text ≡ front_of r ++ colon ∷ r.params_text
whole text r h =
    sym (join_with_byte-slice_split colon text) ∙ ap joined h.parts ∙ joined_front version r.hash r.uuid r.iv r.ciphertext r.params_text

front_length : (v h u i c : List ℕ) → 139 ≡ place_after (v ∷ h ∷ u ∷ i ∷ []) → length (joined (v ∷ h ∷ u ∷ i ∷ c ∷ [])) ≡ 139 + length c
front_length v h u i c place =
    omega (
      arith,
      place,
      length-append v (colon ∷ (h ++ colon ∷ (u ++ colon ∷ (i ++ colon ∷ c)))),
      length-append h (colon ∷ (u ++ colon ∷ (i ++ colon ∷ c))),
      length-append u (colon ∷ (i ++ colon ∷ c)),
      length-append i (colon ∷ c),
      length-append v (colon ∷ (h ++ colon ∷ (u ++ colon ∷ i))),
      length-append h (colon ∷ (u ++ colon ∷ i)),
      length-append u (colon ∷ i),
    )

-- ---- what opens

-- a string whose ciphertext has so many bytes
record HasLengths (text : List ℕ) (count : ℕ) : Type 0 where
  least : 4 * count + 420 ≤ 3 * length text
  most : 3 * length text ≤ 4 * count + 25004

parts_lengths : (text bytes : List ℕ) (r : Reading) → Is003 text r → IsBase64 r.ciphertext bytes → HasLengths text (length bytes)
parts_lengths text bytes r h encoded =
    let front : List ℕ = front_of r in
    let last : List ℕ = r.params_text in
    let front_long : length front ≡ 139 + length r.ciphertext =
    front_length version r.hash r.uuid r.iv r.ciphertext (ciphertext_place version r.hash r.uuid r.iv refl h.hash h.uuid h.iv) in
    let spelled : length r.ciphertext ≡ length (base64_text bytes) = ap length encoded.spelled in
    let least : 4 * length bytes ≤ 3 * length r.ciphertext = omega (arith, spelled, length-base64_text bytes) in
    let most : 3 * length r.ciphertext ≤ 4 * length bytes + 8 = omega (arith, spelled, length-base64_text bytes) in
    let long : length text ≡ length front + length (colon ∷ last) = ap length (whole text r h) ∙ length-append front (colon ∷ last) in
    let params_short : length last ≤ 8192 = h.params.short in
    record { least = omega (arith, front_long, least, long); most = omega (arith, front_long, most, long, params_short) }

-- a plain text is padded to whole blocks by a byte at least
abbrev padded : ℕ → ℕ
padded size = size + (16 - size % 16)

opened_lengths : (text uuid encryption_key authentication_key plain : List ℕ) → Opens text uuid encryption_key authentication_key plain
    → HasLengths text (padded (length plain))
opened_lengths text uuid encryption_key authentication_key plain h =
    let d = h.decrypts in
    let added : ℕ = 16 - length plain % 16 in
    let same : length d.bytes ≡ length (plain ++ replicate added added) = d.cbc.same_length in
    let long : length d.bytes ≡ padded (length plain) =
    same ∙ length-append plain (replicate added added) ∙ ap (λ n. length plain + n) (length-replicate added added) in
    subst (HasLengths text) long (parts_lengths text d.bytes h.reading h.authentic.names.reads d.bytes_are)

digits_length : (digits key : List ℕ) → IsLowerHex 64 digits key → length digits ≡ 128
digits_length digits key h = ap length h.spelled ∙ length-encode_with lower_digits key ∙ ap (λ n. 2 * n) h.count

content_lengths : (sealed : Sealed) (uuid text : List ℕ) (set : KeySet) → OpensItem sealed uuid set text
    → HasLengths sealed.content (padded (length text))
content_lengths sealed uuid text set h =
    opened_lengths sealed.content uuid (encryption_half h.key) (authentication_half h.key) text h.opens

enc_lengths : (sealed : Sealed) (uuid text : List ℕ) (set : KeySet) → OpensItem sealed uuid set text → HasLengths sealed.enc 144
enc_lengths sealed uuid text set h =
    subst (λ n. HasLengths sealed.enc (padded n)) (digits_length h.enc.digits h.key h.enc.spelled)
    (opened_lengths sealed.enc uuid set.mk set.ak h.enc.digits h.enc.opens)

-- ---- what is kept

-- one content has strings of about one length under any set
as_long : (given again : List ℕ) (count : ℕ) → HasLengths given count → HasLengths again count → length again ≤ length given + 8195
as_long given again count x y = omega (arith, x.least, y.most)

enc_most : (enc : List ℕ) → HasLengths enc 144 → length enc ≤ 8527
enc_most enc x = omega (arith, x.most)

pub keeps_weight : (sets : Sets) → KeepsWeight sets
keeps_weight sets words uuid content enc strings stale left (inl (closed, same, fresh, left_is)) =
    let size = strings_size strings in
    let c : length strings.content ≡ length content = ap (λ (z : Sealed). length z.content) same in
    let e : length strings.enc ≡ length enc = ap (λ (z : Sealed). length z.enc) same in
    omega arith
keeps_weight sets words uuid content enc strings stale left (inr (text, opens, rewraps, again)) =
    let size = strings_size strings in
    let given : Sealed = record { content = content; enc = enc } in
    let c : length strings.content ≤ length content + 8195 =
    as_long content strings.content (padded (length text)) (content_lengths given uuid text opens.set opens.opens)
    (content_lengths (sealed_of strings) uuid text sets.present rewraps.still) in
    let e : length strings.enc ≤ 8527 = enc_most strings.enc (enc_lengths (sealed_of strings) uuid text sets.present rewraps.still) in
    omega arith
