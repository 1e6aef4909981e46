-- What is sealed opens.
use Rattle.std.proofs.Common.{◌≡◌, ◌+◌, ℕ, List, length, replicate, Result, Ok, Err, IfOk, String, string_bytes, refl, ap, ◌∙◌, arith, length-append}
use Rattle.std.proofs.lemmas.List.{length-replicate}
use Rattle.std.specs.declared.alloc.Global.{Global}
use Rattle.std.specs.Str.{IsUtf8}
use Rattle.sn_cbc.specs.Cbc.{IsCbc, padded, padding_count}
use Rattle.sn_items.specs.Items.{CarriesParams}
use Rattle.sn_items.specs.Opens.{Opens, Decrypts, hash_of}
use Rattle.sn_string.specs.Base64.{IsBase64}
use Rattle.sn_string.specs.Grammar.{Reading, Is003, IsCiphertext}
use Rattle.sn_string.specs.Hex.{IsLowerHex}
use Rattle.sn_string.specs.Uuids.{IsUuidText}

-- the base64 of what CBC gives has a ciphertext's form
pub ciphertext_of : (encryption_key iv plain bytes : List ℕ) {part : List ℕ} → IsBase64 part bytes → IsCbc encryption_key iv plain bytes → IsCiphertext part
ciphertext_of encryption_key iv plain bytes encoded cbc =
    let n = padding_count plain in
    let long : length (padded plain) ≡ length plain + n = length-append plain (replicate n n) ∙ ap (λ k. length plain + k) (length-replicate n n) in
    record {
      bytes = bytes;
      encoded = encoded;
      some = omega (arith, cbc.same_length, long);
      whole = omega (arith, cbc.same_length, cbc.whole);
    }

-- a string of such parts opens to the plain text
pub opens_written : {E : Type 0} (r : Result (String Global) E) (reading : Reading) (uuid encryption_key authentication_key plain : List ℕ)
    → IfOk r (λ text. Is003 (string_bytes text) reading)
    → IsUuidText reading.uuid uuid
    → IsLowerHex 32 reading.hash (hash_of authentication_key reading)
    → Decrypts reading.iv reading.ciphertext encryption_key plain
    → IsUtf8 plain
    → IfOk r (λ text. Opens (string_bytes text) uuid encryption_key authentication_key plain)
opens_written (Ok text) reading uuid encryption_key authentication_key plain reads uuid_is hash_is decrypts utf8 =
    record {
      reading = reading;
      authentic = record { names = record { reads = reads; uuid_is = uuid_is }; hash_is = hash_is };
      decrypts = decrypts;
      utf8 = utf8;
    }
opens_written (Err e) reading uuid encryption_key authentication_key plain reads uuid_is hash_is decrypts utf8 = tt

-- and it carries their parameters
pub carries_written : {E : Type 0} (r : Result (String Global) E) (reading : Reading)
    → IfOk r (λ text. Is003 (string_bytes text) reading)
    → IfOk r (λ text. CarriesParams (string_bytes text) reading.params)
carries_written (Ok text) reading reads = record { reading = reading; reads = reads; params_are = refl }
carries_written (Err e) reading reads = tt
