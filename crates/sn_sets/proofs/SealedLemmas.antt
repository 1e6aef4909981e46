-- How long the strings of an item are, and which contents' fit a row.
use Rattle.std.proofs.Common.{arith, ◌≡◌, ◌∙◌, sym, ap, subst, refl, ℕ, ◌+◌, ◌-◌, ◌*◌, ◌%◌, ◌≤◌, inl, inr, Bool, true, false, ◌||◌, List, [], ◌∷◌, ◌++◌, length, replicate}
use Rattle.std.specs.Prelude.{nat_le}
use Rattle.std.specs.List.{All}
use Rattle.std.specs.Str.{is_utf8}
use Rattle.std.proofs.lemmas.Bool.{and_parts, leb-true}
use Rattle.std.proofs.lemmas.List.{append_assoc, length-append, length-replicate}
use Rattle.std.proofs.lemmas.List.Elements.{All-head, All-tail}
use Rattle.std.proofs.lemmas.List.Splits.{join_with_byte-slice_split}
use Rattle.hex.specs.Hex.{lower_digits}
use Rattle.hex.proofs.HexLemmas.{length-encode_with}
use Rattle.sn_items.specs.Items.{OpensItem, encryption_half, authentication_half}
use Rattle.sn_items.specs.Opens.{Opens}
use Rattle.sn_items.specs.declared.sealed.Sealed.{Sealed}
use Rattle.sn_rows.specs.Bounds.{HasDeviceLengths, HasLength, has_device_lengths, is_device_string, has_colon, is_colon, before_colon, after_colon}
use Rattle.sn_rows.specs.declared.body.RowStrings.{RowStrings}
use Rattle.sn_sets.specs.Laws.{FitsDevice, FitsServer, OpenedIsShort}
use Rattle.sn_sets.specs.Seals.{longest_sealed}
use Rattle.sn_sets.specs.Sets.{OpensHeld, sealed_of}
use Rattle.sn_sets.specs.declared.sets.Sets.{Sets}
use Rattle.sn_string.proofs.Facts.{HasNoColon-base64, ciphertext_place, length-base64_text}
use Rattle.sn_string.specs.Base64.{IsBase64, base64_text}
use Rattle.sn_string.specs.Bounds.{most_string}
use Rattle.sn_string.specs.Grammar.{Reading, Is003, colon, joined, version}
use Rattle.sn_string.specs.Hex.{IsLowerHex}
use Rattle.sn_string.specs.Refusals.{place_after}
use Rattle.sn_string.specs.declared.params.KeySet.{KeySet}

-- ---- the last colon

abbrev IsOther : ℕ → Type 0
IsOther byte = is_colon byte ≡ false

no_colon : (part : List ℕ) → All IsOther part → has_colon part ≡ false
no_colon [] plain = refl
no_colon (byte ∷ part) plain =
    let one : is_colon byte ≡ false = All-head IsOther byte part plain in
    let more : has_colon part ≡ false = no_colon part (All-tail IsOther byte part plain) in
    rw (one, more) refl

or_right : (x y : Bool) → y ≡ true → (x || y) ≡ true
or_right true y e = refl
or_right false y e = e

colon_there : (front last : List ℕ) → has_colon (front ++ colon ∷ last) ≡ true
colon_there [] last = refl
colon_there (byte ∷ front) last = or_right (is_colon byte) (has_colon (front ++ colon ∷ last)) (colon_there front last)

-- the colon between two texts, of which the second has none, is the last
before_last : (front last : List ℕ) → has_colon last ≡ false → before_colon (front ++ colon ∷ last) ≡ front
before_last [] last none = rw none refl
before_last (byte ∷ front) last none =
    let there : has_colon (front ++ colon ∷ last) ≡ true = colon_there front last in
    let more : before_colon (front ++ colon ∷ last) ≡ front = before_last front last none in
    rw there (ap (λ l. byte ∷ l) more)

after_last : (front last : List ℕ) → has_colon last ≡ false → after_colon (front ++ colon ∷ last) ≡ last
after_last [] last none = rw none refl
after_last (byte ∷ front) last none =
    let there : has_colon (front ++ colon ∷ last) ≡ true = colon_there front last in
    let more : after_colon (front ++ colon ∷ last) ≡ last = after_last front last none in
    rw there more

-- ---- the six parts

abbrev front_of : Reading → List ℕ
front_of r = joined (version ∷ r.hash ∷ r.uuid ∷ r.iv ∷ r.ciphertext ∷ [])

joined_front : (v h u i c p : List ℕ)
    → joined (v ∷ h ∷ u ∷ i ∷ c ∷ p ∷ []) ≡ joined (v ∷ h ∷ u ∷ i ∷ c ∷ []) ++ colon ∷ p
joined_front v h u i c p = simp append_assoc

whole : (text : List ℕ) (r : Reading) → Is003 text r → text ≡ front_of r ++ colon ∷ r.params_text
whole text r h =
    sym (join_with_byte-slice_split colon text) ∙ ap joined h.parts ∙ joined_front version r.hash r.uuid r.iv r.ciphertext r.params_text

front_length : (v h u i c : List ℕ) → 139 ≡ place_after (v ∷ h ∷ u ∷ i ∷ []) → length (joined (v ∷ h ∷ u ∷ i ∷ c ∷ [])) ≡ 139 + length c
front_length v h u i c place =
    omega (
      arith,
      place,
      length-append v (colon ∷ (h ++ colon ∷ (u ++ colon ∷ (i ++ colon ∷ c)))),
      length-append h (colon ∷ (u ++ colon ∷ (i ++ colon ∷ c))),
      length-append u (colon ∷ (i ++ colon ∷ c)),
      length-append i (colon ∷ c),
      length-append v (colon ∷ (h ++ colon ∷ (u ++ colon ∷ i))),
      length-append h (colon ∷ (u ++ colon ∷ i)),
      length-append u (colon ∷ i),
    )

-- four characters for three bytes
record HasBase64Length (part : List ℕ) (count : ℕ) : Type 0 where
  least : 4 * count ≤ 3 * length part
  most : 3 * length part ≤ 4 * count + 8

base64_length : (part bytes : List ℕ) → IsBase64 part bytes → HasBase64Length part (length bytes)
base64_length part bytes h =
    let long : length part ≡ length (base64_text bytes) = ap length h.spelled in
    record {
      least = omega (arith, long, length-base64_text bytes);
      most = omega (arith, long, length-base64_text bytes);
    }

-- ---- what opens

-- the parts of a string whose ciphertext has so many bytes: before its last colon there are its first parts, and after it its parameters
record HasLengths (text : List ℕ) (count : ℕ) : Type 0 where
  least : 4 * count + 417 ≤ 3 * length (before_colon text)
  most : 3 * length (before_colon text) ≤ 4 * count + 425
  after : length (after_colon text) ≤ 8192
  all : length text ≤ length (before_colon text) + 8193

parts_lengths : (text bytes : List ℕ) (r : Reading) → Is003 text r → IsBase64 r.ciphertext bytes → HasLengths text (length bytes)
parts_lengths text bytes r h encoded =
    let front : List ℕ = front_of r in
    let last : List ℕ = r.params_text in
    let none : has_colon last ≡ false = no_colon last (HasNoColon-base64 last h.params.json h.params.encoded).all in
    let text_is : text ≡ front ++ colon ∷ last = whole text r h in
    let front_long : length front ≡ 139 + length r.ciphertext =
    front_length version r.hash r.uuid r.iv r.ciphertext (ciphertext_place version r.hash r.uuid r.iv refl h.hash h.uuid h.iv) in
    let encoded_long = base64_length r.ciphertext bytes encoded in
    let before : length (before_colon text) ≡ length front = ap (λ t. length (before_colon t)) text_is ∙ ap length (before_last front last none) in
    let after : length (after_colon text) ≡ length last = ap (λ t. length (after_colon t)) text_is ∙ ap length (after_last front last none) in
    let long : length text ≡ length front + length (colon ∷ last) = ap length text_is ∙ length-append front (colon ∷ last) in
    let params_short : length last ≤ 8192 = h.params.short in
    record {
      least = omega (arith, before, front_long, encoded_long.least);
      most = omega (arith, before, front_long, encoded_long.most);
      after = omega (arith, after, params_short);
      all = omega (arith, before, long, params_short);
    }

-- a plain text is padded to whole blocks by a byte at least
abbrev padded : ℕ → ℕ
padded size = size + (16 - size % 16)

padded_short : (size : ℕ) → size ≤ longest_sealed → padded size ≤ 786320
padded_short size short = omega (arith, short)

padded_long : (size : ℕ) → padded size ≤ 786335 → size ≤ longest_sealed
padded_long size few = omega (arith, few)

opened_lengths : (text uuid encryption_key authentication_key plain : List ℕ) → Opens text uuid encryption_key authentication_key plain
    → HasLengths text (padded (length plain))
opened_lengths text uuid encryption_key authentication_key plain h =
    let d = h.decrypts in
    let added : ℕ = 16 - length plain % 16 in
    let same : length d.bytes ≡ length (plain ++ replicate added added) = d.cbc.same_length in
    let long : length d.bytes ≡ padded (length plain) =
    same ∙ length-append plain (replicate added added) ∙ ap (λ n. length plain + n) (length-replicate added added) in
    subst (HasLengths text) long (parts_lengths text d.bytes h.reading h.authentic.names.reads d.bytes_are)

digits_length : (digits key : List ℕ) → IsLowerHex 64 digits key → length digits ≡ 128
digits_length digits key h = ap length h.spelled ∙ length-encode_with lower_digits key ∙ ap (λ n. 2 * n) h.count

content_lengths : (sealed : Sealed) (uuid text : List ℕ) (set : KeySet) → OpensItem sealed uuid set text
    → HasLengths sealed.content (padded (length text))
content_lengths sealed uuid text set h =
    opened_lengths sealed.content uuid (encryption_half h.key) (authentication_half h.key) text h.opens

enc_lengths : (sealed : Sealed) (uuid text : List ℕ) (set : KeySet) → OpensItem sealed uuid set text → HasLengths sealed.enc 144
enc_lengths sealed uuid text set h =
    subst (λ n. HasLengths sealed.enc (padded n)) (digits_length h.enc.digits h.key h.enc.spelled)
    (opened_lengths sealed.enc uuid set.mk set.ak h.enc.digits h.enc.opens)

-- ---- what fits

device_fits : (text : List ℕ) (count : ℕ) → HasLengths text count → count ≤ 786320 → HasDeviceLengths text
device_fits text count h few = (omega (arith, h.most, few), h.after)

server_fits : (text : List ℕ) (count : ℕ) → HasLengths text count → count ≤ 700016 → HasLength 0 most_string text
server_fits text count h few = (omega arith, omega (arith, h.most, h.all, few))

pub fits_device : FitsDevice
fits_device sealed uuid set text h short = (
  device_fits sealed.content (padded (length text)) (content_lengths sealed uuid text set h) (padded_short (length text) short),
  device_fits sealed.enc 144 (enc_lengths sealed uuid text set h) (omega arith),
)

pub fits_server : FitsServer
fits_server sealed uuid set text h short = (
  server_fits sealed.content (padded (length text)) (content_lengths sealed uuid text set h) (omega (arith, short)),
  server_fits sealed.enc 144 (enc_lengths sealed uuid text set h) (omega arith),
)

-- ---- what opens is short

within_row : (text : List ℕ) → is_device_string text ≡ true → length (before_colon text) ≤ most_string
within_row text e =
    let both = and_parts (is_utf8 text) (has_device_lengths text) e in
    let lengths = and_parts (nat_le (length (before_colon text)) most_string) (nat_le (length (after_colon text)) 8192) both.1 in
    leb-true (length (before_colon text)) most_string lengths.0

item_is_short : (uuid : List ℕ) (strings : RowStrings) (set : KeySet) (text : List ℕ) → OpensItem (sealed_of strings) uuid set text
    → length text ≤ longest_sealed
item_is_short uuid strings set text h =
    let within : length (before_colon strings.content) ≤ 1048576 = within_row strings.content strings.content_fits in
    padded_long (length text) (omega (arith, within, (content_lengths (sealed_of strings) uuid text set h).least))

held_is_short : (sets : Sets) (uuid : List ℕ) (strings : RowStrings) (text : List ℕ) → OpensHeld sets uuid (sealed_of strings) text
    → length text ≤ longest_sealed
held_is_short sets uuid strings text (inl present) = item_is_short uuid strings sets.present text present
held_is_short sets uuid strings text (inr older) = item_is_short uuid strings older.set text older.opens

pub opened_is_short : OpenedIsShort
opened_is_short = held_is_short
