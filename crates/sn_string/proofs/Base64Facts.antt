-- Lengths of base64, and its one reading.
use Rattle.std.proofs.Common.{arith, ◌≡◌, ◌∙◌, ap, sym, subst, ℕ, ◌+◌, ◌<◌, ◌≤◌, inl, inr, List, length, replicate, take, Result, Ok, Err, refl}
use Rattle.std.proofs.lemmas.Bool.{cases_lt}
use Rattle.std.proofs.lemmas.List.{length-append, length-replicate, take_at}
use Rattle.base64.specs.Engines.{standard}
use Rattle.base64.specs.GeneralPurpose.{engine_symbols, decode_of, encoded_size_of, IsEncodedOver}
use Rattle.base64.specs.Rfc4648.{encode_symbols, padding_len, unpadded_len}
use Rattle.base64.proofs.EngineFacts.{decode_of-encode_of}
use Rattle.base64.proofs.RoundTrip.{length-encode_symbols}
use Rattle.sn_string.specs.Base64.{IsBase64, base64_text}
use Rattle.sn_string.specs.Parameters.{IsParamsJson, IsParamsPart}
use Rattle.sn_string.specs.declared.params.Params.{Params}

pub length-base64_text : (bytes : List ℕ) → length (base64_text bytes) ≡ unpadded_len (length bytes) + padding_len (length bytes)
length-base64_text bytes =
    let equals : ℕ = 61 in
    omega (
      arith,
      length-append (encode_symbols (engine_symbols standard) bytes) (replicate (padding_len (length bytes)) equals),
      length-encode_symbols (engine_symbols standard) bytes,
      length-replicate (padding_len (length bytes)) equals,
    )

pub decode_of-base64 : (text bytes : List ℕ) → IsBase64 text bytes → decode_of standard text ≡ Ok bytes
decode_of-base64 text bytes h = ap (decode_of standard) h.spelled ∙ decode_of-encode_of standard bytes refl h.fit

pub same_bytes : (text a b : List ℕ) → IsBase64 text a → IsBase64 text b → a ≡ b
same_bytes text a b h k =
    let one = decode_of-base64 text a h in
    let two = decode_of-base64 text b k in
    cc

-- a part stands for parameters only if its JSON does
pub IsParamsJson-part : (part json : List ℕ) (p : Params) → IsBase64 part json → IsParamsPart part p → IsParamsJson json p
IsParamsJson-part part json p encoded h =
    let P : List ℕ → Type 0 = λ j. IsParamsJson j p in
    subst P (same_bytes part h.json json h.encoded encoded) h.says

-- what is written into a room is written where it fits
pub fits_then : {E : Type 0} (r : Result ℕ E) (size most count : ℕ) (e : E) → r ≡ Ok count → (size ≤ most → r ≡ Ok size) → (most < size → r ≡ Err e)
    → count ≡ size
fits_then r size most count e is fits small =
    elim (cases_lt most size) [
      | inl over ↦ absurd (let no : r ≡ Err e = small over in cc)
      | inr under ↦ let yes : r ≡ Ok size = fits under in cc
    ]

pub base64_over : (bytes old new : List ℕ) (count : ℕ) → count ≡ encoded_size_of standard (length bytes) → IsEncodedOver standard bytes old new
    → take count new ≡ base64_text bytes
base64_over bytes old new count same over =
    ap (take count) over ∙ take_at (base64_text bytes) _ count (length-base64_text bytes ∙ sym same)
