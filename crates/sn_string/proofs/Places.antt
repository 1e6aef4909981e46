-- Where the parts of a 003 string begin.
use Rattle.std.proofs.Common.{arith, ◌≡◌, ◌∙◌, ap, ℕ, ◌+◌, ◌*◌, List, [], ◌∷◌, ◌++◌, length, cond, sym, subst, ◌-◌, ◌≤◌}
use Rattle.std.proofs.lemmas.List.Splits.{join_with_byte-slice_split}
use Rattle.std.proofs.lemmas.List.{length-append}
use Rattle.hex.specs.Hex.{lower_digits}
use Rattle.hex.proofs.HexLemmas.{length-encode_with}
use Rattle.uuid.specs.Text.{lower, hex_digit, nibble, digit_place, is_hyphen_place, hyphen}
use Rattle.uuid.proofs.TextLemmas.{by_index_length}
use Rattle.sn_string.specs.Grammar.{IsHash, IsUuid, IsIv, joined, colon, parts_of, version}
use Rattle.sn_string.specs.Hex.{IsLowerHex}
use Rattle.sn_string.specs.Parts.{IsSix, HasForms}
use Rattle.sn_string.specs.Refusals.{place_after, RefusedFor, IsNoParamsPart}
use Rattle.sn_string.specs.declared.reader.Six.{Six}
use Rattle.sn_string.specs.declared.reader.StringError.TheVariants as error
use Rattle.sn_string.specs.Uuids.{IsUuidText}

length-hex : (n : ℕ) (text bytes : List ℕ) → IsLowerHex n text bytes → length text ≡ 2 * n
length-hex n text bytes h = ap length h.spelled ∙ length-encode_with lower_digits bytes ∙ ap (λ k. 2 * k) h.count

length-uuid : (text uuid : List ℕ) → IsUuidText text uuid → length text ≡ 36
length-uuid text uuid h =
    let character : ℕ → ℕ = λ k. cond (is_hyphen_place k) hyphen (hex_digit lower (nibble uuid (digit_place k))) in
    ap length h.spelled ∙ by_index_length 36 character

length-version : (v : List ℕ) → v ≡ version → length v ≡ 3
length-version v h = ap length h

pub hash_place : (v : List ℕ) → v ≡ version → 4 ≡ place_after (v ∷ [])
hash_place v is = omega (arith, length-version v is)

pub uuid_place : (v h : List ℕ) → v ≡ version → IsHash h → 69 ≡ place_after (v ∷ h ∷ [])
uuid_place v h is hash = omega (arith, length-version v is, length-hex 32 h hash.0 hash.1, length-append v (colon ∷ h))

pub iv_place : (v h u : List ℕ) → v ≡ version → IsHash h → IsUuid u → 106 ≡ place_after (v ∷ h ∷ u ∷ [])
iv_place v h u is hash uuid =
    omega (
      arith,
      length-version v is,
      length-hex 32 h hash.0 hash.1,
      length-uuid u uuid.0 uuid.1,
      length-append v (colon ∷ (h ++ colon ∷ u)),
      length-append h (colon ∷ u),
    )

pub ciphertext_place : (v h u i : List ℕ) → v ≡ version → IsHash h → IsUuid u → IsIv i → 139 ≡ place_after (v ∷ h ∷ u ∷ i ∷ [])
ciphertext_place v h u i is hash uuid iv =
    omega (
      arith,
      length-version v is,
      length-hex 32 h hash.0 hash.1,
      length-uuid u uuid.0 uuid.1,
      length-hex 16 i iv.0 iv.1,
      length-append v (colon ∷ (h ++ colon ∷ (u ++ colon ∷ i))),
      length-append h (colon ∷ (u ++ colon ∷ i)),
      length-append u (colon ∷ i),
    )

-- the last part begins as far before the end as it is long
pub params_place : (text v h u i c p : List ℕ) → parts_of text ≡ v ∷ h ∷ u ∷ i ∷ c ∷ p ∷ []
    → length text ≡ place_after (v ∷ h ∷ u ∷ i ∷ c ∷ []) + length p
params_place text v h u i c p parts =
    let whole : text ≡ joined (v ∷ h ∷ u ∷ i ∷ c ∷ p ∷ []) = sym (join_with_byte-slice_split colon text) ∙ ap joined parts in
    let d : List ℕ = c ++ colon ∷ p in
    omega (
      arith,
      ap length whole,
      length-append v (colon ∷ (h ++ colon ∷ (u ++ colon ∷ (i ++ colon ∷ d)))),
      length-append h (colon ∷ (u ++ colon ∷ (i ++ colon ∷ d))),
      length-append u (colon ∷ (i ++ colon ∷ d)),
      length-append i (colon ∷ d),
      length-append c (colon ∷ p),
      length-append v (colon ∷ (h ++ colon ∷ (u ++ colon ∷ (i ++ colon ∷ c)))),
      length-append h (colon ∷ (u ++ colon ∷ (i ++ colon ∷ c))),
      length-append u (colon ∷ (i ++ colon ∷ c)),
      length-append i (colon ∷ c),
    )

pub params_within : (text v h u i c p : List ℕ) → parts_of text ≡ v ∷ h ∷ u ∷ i ∷ c ∷ p ∷ [] → length p ≤ length text
params_within text v h u i c p parts = omega (arith, params_place text v h u i c p parts)

-- where the other five are in their forms, the last is the leftmost that isn't
pub RefusedFor-params : (text : List ℕ) (six : Six) → IsSix text six → HasForms six → IsNoParamsPart six.params_text.now
    → RefusedFor (parts_of text) (error.Params (length text - length six.params_text.now))
RefusedFor-params text six parts forms none =
    let P : List (List ℕ) → Type 0 = λ l. RefusedFor l (error.Params (length text - length six.params_text.now)) in
    let place = params_place text six.version.now six.hash.now six.uuid.now six.iv.now six.ciphertext.now six.params_text.now parts in
    subst P (sym parts) (forms.version, forms.hash, forms.uuid, forms.iv, forms.ciphertext, none, omega (arith, place))
