-- What a token is the base64 of.
use Rattle.std.proofs.Common.{arith, ◌≡◌, ◌∙◌, sym, ap, refl, subst, ℕ, zero, suc, ◌^◌, ◌<◌, ◌≤◌, List, ◌++◌, length, take, drop, Bool, true, false, nat_le, Result, Ok, Err, None, Some, IfErr, IfNone, IfOk, codes}
use Rattle.std.specs.Bool.{then_some}
use Rattle.std.proofs.lemmas.Bool.Decides.{nat_tests}
use Rattle.std.specs.Fmt.{decimal}
use Rattle.std.specs.Result.{result_ok}
use Rattle.std.proofs.lemmas.Fmt.{IsAscii-decimal, decimal_injective, length-decimal-le}
use Rattle.base64.specs.Engines.{standard}
use Rattle.base64.specs.GeneralPurpose.{IsBytes, IsDecodedInto, decode_of}
use Rattle.base64.specs.declared.decode.DecodeError.{DecodeError}
use Rattle.base64.proofs.EngineFacts.{decode_of_strict}
use Rattle.sn_string.specs.Base64.{IsBase64}
use Rattle.sn_string.proofs.Facts.{decode_of-base64, length-base64_text, same_bytes}
use Rattle.sn_string.specs.Bounds.{last_stamp}
use Rattle.sn_sync.specs.Tokens.{IsToken}

-- the bytes of a stamp's token
abbrev pub token_bytes : ℕ → List ℕ
token_bytes stamp = codes "2:" ++ decimal stamp

IsBytes-token : (stamp : ℕ) → stamp ≤ last_stamp → IsBytes (token_bytes stamp)
IsBytes-token stamp h zero = omega arith
IsBytes-token stamp h (suc zero) = omega arith
IsBytes-token stamp h (suc (suc i)) = let digit = IsAscii-decimal stamp (omega arith) i in omega arith

pub IsBase64-token : (text : List ℕ) (stamp : ℕ) → IsToken text stamp → IsBase64 text (token_bytes stamp)
IsBase64-token text stamp h = record { fit = IsBytes-token stamp h.bound; spelled = h.spelled }

pub token_decodes : (text : List ℕ) (stamp : ℕ) → IsToken text stamp → decode_of standard text ≡ Ok (token_bytes stamp)
token_decodes text stamp h = decode_of-base64 text (token_bytes stamp) (IsBase64-token text stamp h)

-- a token has at most 28 characters
pub length-token-le : (text : List ℕ) (stamp : ℕ) → IsToken text stamp → length text ≤ 28
length-token-le text stamp h =
    let digits = length-decimal-le 18 stamp (omega arith) (omega (arith, h.bound)) (omega (arith, h.bound)) in
    omega (arith, ap length h.spelled, length-base64_text (token_bytes stamp))

-- what doesn't decode is no token
pub undecoded : (text : List ℕ) (r : Result ℕ DecodeError) → IfErr r (λ e. decode_of standard text ≡ Err e) → result_ok r ≡ None → (stamp : ℕ) → ¬ (IsToken text stamp)
undecoded text (Ok n) h none stamp token = cc
undecoded text (Err e) h none stamp token = let decoded = token_decodes text stamp token in cc

pub decoded_into : (text old new : List ℕ) (n : ℕ) (r : Result ℕ DecodeError) → IfOk r (λ k. IsDecodedInto standard text k old new) → result_ok r ≡ Some n
    → decode_of standard text ≡ Ok (take n new)
decoded_into text old new n (Ok k) h e = let same : k ≡ n = cc in subst (λ j. decode_of standard text ≡ Ok (take j new)) same h.0
decoded_into text old new n (Err x) h e = cc

-- and what decodes to a token's bytes is one
pub IsToken-decoded : (text bytes : List ℕ) (stamp : ℕ) → IsBytes text → decode_of standard text ≡ Ok bytes → stamp ≤ last_stamp → bytes ≡ token_bytes stamp → IsToken text stamp
IsToken-decoded text bytes stamp fit decoded bound e =
    record { bound = bound; spelled = decode_of_strict standard text (token_bytes stamp) (refl, refl) fit (decoded ∙ ap Ok e) }

pub same_decoded : (text bytes : List ℕ) (stamp : ℕ) → decode_of standard text ≡ Ok bytes → IsToken text stamp → bytes ≡ token_bytes stamp
same_decoded text bytes stamp decoded token = let other = token_decodes text stamp token in cc

-- two stamps of one token are one
pub same_stamp : (a b : ℕ) → a ≤ last_stamp → b ≤ last_stamp → token_bytes a ≡ token_bytes b → a ≡ b
same_stamp a b h k e = decimal_injective a b (omega arith) (omega arith) cc

none_where_false : (b : Bool) (n : ℕ) (P : Type 0) → (b ≡ false → P) → IfNone (then_some b n) P
none_where_false true n P h = tt
none_where_false false n P h = h refl

-- a number above the last stamp is none of a token
pub above_last : (bytes digits : List ℕ) (n : ℕ) → n < 2 ^ 64 → digits ≡ decimal n → digits ≡ drop 2 bytes
    → IfNone (then_some (nat_le n last_stamp) n) ((stamp : ℕ) → stamp ≤ last_stamp → ¬ (bytes ≡ token_bytes stamp))
above_last bytes digits n fits e behind = none_where_false (nat_le n last_stamp) n ((stamp : ℕ) → stamp ≤ last_stamp → ¬ (bytes ≡ token_bytes stamp)) (λ above stamp bound spelled.
    let rest : drop 2 bytes ≡ decimal stamp = ap (drop 2) spelled in
    let same = decimal_injective n stamp fits (omega arith) (sym e ∙ behind ∙ rest) in
    grind (arith, nat_tests))

pub one_token : (text : List ℕ) (a b : ℕ) → IsToken text a → IsToken text b → a ≡ b
one_token text a b h k = same_stamp a b h.bound k.bound (same_bytes text _ _ (IsBase64-token text a h) (IsBase64-token text b k))
