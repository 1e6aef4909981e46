-- No byte of a 003 string is escaped in JSON.
use Rattle.std.proofs.Common.{◌≡◌, ◌≢◌, ℕ, zero, suc, ◌+◌, ◌*◌, ◌/◌, ◌%◌, ◌<◌, ◌≤◌, Bool, true, false, cond, not, ◌&&◌, ◌==◌, nat_le, List, [], ◌∷◌, length, get_or, slice_index, replicate, refl, sym, ap, ◌∙◌, subst, arith, length-append}
use Rattle.std.specs.List.{All, join_with_byte, list_all}
use Rattle.std.specs.Str.{IsAscii}
use Rattle.std.proofs.lemmas.Bool.{and_parts}
use Rattle.std.proofs.lemmas.Bool.Decides.{nat_tests}
use Rattle.std.proofs.lemmas.List.Elements.{All-append, All-cons, All-from_recursion, All-head, All-nil, All-replicate, All-tail}
use Rattle.std.proofs.lemmas.List.Splits.{join_with_byte-slice_split}
use Rattle.base64.specs.Engines.{standard}
use Rattle.base64.specs.GeneralPurpose.{IsBytes, engine_symbols}
use Rattle.base64.specs.Rfc4648.{encode_symbols, padding_len}
use Rattle.hex.specs.Hex.{encode_with, lower_digits}
use Rattle.json.specs.Print.{escape, escape_byte, quoted}
use Rattle.uuid.specs.Text.{digit_place, hex_digit, hyphen, is_hyphen_place, lower, nibble}
use Rattle.uuid.proofs.TextLemmas.{by_index_at, by_index_length, nibble_small}
use Rattle.sn_string.specs.Base64.{IsBase64}
use Rattle.sn_string.specs.Grammar.{Is003, Reading, colon, version}
use Rattle.sn_string.specs.Hex.{IsLowerHex}
use Rattle.sn_string.specs.Uuids.{IsUuidText, uuid_text}
use Rattle.sn_account.specs.AnswerSize.{AreUnescaped, IsUnescaped, SealedAreUnescaped}
use Rattle.sn_account.specs.Lookups.{Bytes}

-- ---- bytes from a table

-- an ASCII byte that JSON doesn't escape
abbrev IsOwnByte : ℕ → Type 0
IsOwnByte byte = (32 ≤ byte) × (byte ≢ 34) × (byte ≢ 92) × (byte < 128)

abbrev AreOwn : Bytes → Type 0
AreOwn text = All IsOwnByte text

abbrev is_own_byte : ℕ → Bool
is_own_byte byte = nat_le 32 byte && (nat_le byte 127 && (not (byte == 34) && not (byte == 92)))

own_so : (byte : ℕ) → is_own_byte byte ≡ true → IsOwnByte byte
own_so byte is =
    let low = and_parts (nat_le 32 byte) (nat_le byte 127 && (not (byte == 34) && not (byte == 92))) is in
    let high = and_parts (nat_le byte 127) (not (byte == 34) && not (byte == 92)) low.1 in
    let others = and_parts (not (byte == 34)) (not (byte == 92)) high.1 in
    (grind (arith, nat_tests), grind (arith, nat_tests), grind (arith, nat_tests), grind (arith, nat_tests))

at_place : (table : List ℕ) → list_all is_own_byte table ≡ true → (k : ℕ) → k < length table → IsOwnByte (slice_index table k)
at_place [] all k within = absurd (omega arith)
at_place (x ∷ xs) all zero within = own_so x (and_parts (is_own_byte x) (list_all is_own_byte xs) all).0
at_place (x ∷ xs) all (suc k) within = at_place xs (and_parts (is_own_byte x) (list_all is_own_byte xs) all).1 k (omega arith)

-- each byte of a text is so
record IsPlain (text : List ℕ) : Type 0 where
  all : AreOwn text

nil : IsPlain []
nil = record { all = All-nil IsOwnByte }

cons : {x : ℕ} {xs : List ℕ} → IsOwnByte x → IsPlain xs → IsPlain (x ∷ xs)
cons {x} {xs} one others = record { all = All-cons IsOwnByte x xs one others.all }

fits_tail : (b : ℕ) (bytes : List ℕ) → IsBytes (b ∷ bytes) → IsBytes bytes
fits_tail b bytes fits = λ i. fits (suc i)

-- ---- parts of a 003 string

digit : (k : ℕ) → k < 16 → IsOwnByte (slice_index lower_digits k)
digit k within = at_place lower_digits refl k within

digits : (bytes : List ℕ) → IsBytes bytes → IsPlain (encode_with lower_digits bytes)
unfolding encode_with
digits [] fits = nil
digits (b ∷ bytes) fits =
    let byte : b < 256 = fits 0 in
    cons (digit (b / 16) (omega arith)) (cons (digit (b % 16) (omega arith)) (digits bytes (fits_tail b bytes fits)))

hex : (n : ℕ) (text bytes : List ℕ) → IsLowerHex n text bytes → AreOwn text
hex n text bytes is = subst AreOwn (sym is.spelled) (digits bytes is.fit).all

uuid_digit : (d : ℕ) → d < 16 → IsOwnByte (hex_digit lower d)
uuid_digit d low = (grind (arith, nat_tests), grind (arith, nat_tests), grind (arith, nat_tests), grind (arith, nat_tests))

uuid_character : (b : Bool) (d : ℕ) → d < 16 → IsOwnByte (cond b hyphen (hex_digit lower d))
uuid_character true d low = (omega arith, λ e. absurd (omega arith), λ e. absurd (omega arith), omega arith)
uuid_character false d low = uuid_digit d low

uuid : (text uuid : List ℕ) → IsUuidText text uuid → AreOwn text
uuid text id is =
    let character : ℕ → ℕ = λ k. cond (is_hyphen_place k) hyphen (hex_digit lower (nibble id (digit_place k))) in
    let long : length (uuid_text id) ≡ 36 = by_index_length 36 character in
    let at : (k d : ℕ) → k < length (uuid_text id) → IsOwnByte (get_or (uuid_text id) k d) = λ k d within.
    subst IsOwnByte (sym (by_index_at 36 character k d (omega arith))) (uuid_character (is_hyphen_place k) (nibble id (digit_place k)) (nibble_small id (digit_place k))) in
    subst AreOwn (sym is.spelled) at

symbol : (k : ℕ) → k < 64 → IsOwnByte (slice_index (engine_symbols standard) k)
symbol k within = at_place (engine_symbols standard) refl k within

symbols : (bytes : List ℕ) → IsBytes bytes → IsPlain (encode_symbols (engine_symbols standard) bytes)
unfolding encode_symbols
symbols [] fits = nil
symbols (a ∷ []) fits =
    let x : a < 256 = fits 0 in
    cons (symbol (a / 4) (omega arith)) (cons (symbol (a % 4 * 16) (omega arith)) nil)
symbols (a ∷ b ∷ []) fits =
    let x : a < 256 = fits 0 in
    let y : b < 256 = fits 1 in
    cons (symbol (a / 4) (omega arith))
    (cons (symbol (a % 4 * 16 + b / 16) (omega arith)) (cons (symbol (b % 16 * 4) (omega arith)) nil))
symbols (a ∷ b ∷ c ∷ rest) fits =
    let x : a < 256 = fits 0 in
    let y : b < 256 = fits 1 in
    let z : c < 256 = fits 2 in
    cons (symbol (a / 4) (omega arith))
    (cons (symbol (a % 4 * 16 + b / 16) (omega arith))
    (cons (symbol (b % 16 * 4 + c / 64) (omega arith)) (cons (symbol (c % 64) (omega arith)) (symbols rest (λ i. fits (suc (suc (suc i))))))))

base64 : (text bytes : List ℕ) → IsBase64 text bytes → AreOwn text
base64 text bytes is =
    let equals : ℕ = 61 in
    subst AreOwn (sym is.spelled)
    (All-append IsOwnByte (encode_symbols (engine_symbols standard) bytes) (replicate (padding_len (length bytes)) equals) (symbols bytes is.fit).all
    (All-replicate IsOwnByte (padding_len (length bytes)) equals (omega arith, λ e. absurd (omega arith), λ e. absurd (omega arith), omega arith)))

-- ---- the whole

-- parts with colons between
joined_so : (parts : List Bytes) → All AreOwn parts → AreOwn (join_with_byte colon parts)
joined_so [] all = All-nil IsOwnByte
joined_so (p ∷ []) all = All-head AreOwn p [] all
joined_so (p ∷ q ∷ parts) all =
    All-append IsOwnByte p (colon ∷ join_with_byte colon (q ∷ parts)) (All-head AreOwn p (q ∷ parts) all)
    (All-cons IsOwnByte colon (join_with_byte colon (q ∷ parts)) (omega arith, λ e. absurd (omega arith), λ e. absurd (omega arith), omega arith)
    (joined_so (q ∷ parts) (All-tail AreOwn p (q ∷ parts) all)))

abbrev parts_in : Reading → List Bytes
parts_in r = version ∷ r.hash ∷ r.uuid ∷ r.iv ∷ r.ciphertext ∷ r.params_text ∷ []

version_so : AreOwn version
version_so = (cons zero_digit (cons zero_digit (cons three nil))).all
  where
    zero_digit : IsOwnByte 48
    zero_digit = (omega arith, λ e. absurd (omega arith), λ e. absurd (omega arith), omega arith)

    three : IsOwnByte 51
    three = (omega arith, λ e. absurd (omega arith), λ e. absurd (omega arith), omega arith)

sealed_own : (text : Bytes) (r : Reading) → Is003 text r → AreOwn text
sealed_own text r is =
    let all : All AreOwn (parts_in r) =
    All-from_recursion AreOwn (parts_in r) (
      version_so,
      (
        hex 32 r.hash is.hash.0 is.hash.1,
        (
          uuid r.uuid is.uuid.0 is.uuid.1,
          (
            hex 16 r.iv is.iv.0 is.iv.1,
            (base64 r.ciphertext is.ciphertext.bytes is.ciphertext.encoded, (base64 r.params_text is.params.json is.params.encoded, tt)),
          ),
        ),
      ),
    ) in
    let whole : join_with_byte colon (parts_in r) ≡ text = ap (join_with_byte colon) (sym is.parts) ∙ join_with_byte-slice_split colon text in
    subst AreOwn whole (joined_so (parts_in r) all)

pub sealed_are_unescaped : SealedAreUnescaped
sealed_are_unescaped text r is = λ k d within. (let own = sealed_own text r is k d within in (own.0, own.1, own.2))

-- and each is an ASCII character
pub sealed_are_ascii : (text : Bytes) (r : Reading) → Is003 text r → IsAscii text
sealed_are_ascii text r is = ascii_so text (sealed_own text r is)
  where
    ascii_so : (t : Bytes) → AreOwn t → (i : ℕ) → slice_index t i < 128
    ascii_so [] own i = omega arith
    ascii_so (x ∷ xs) own zero = (All-head IsOwnByte x xs own).3
    ascii_so (x ∷ xs) own (suc i) = ascii_so xs (All-tail IsOwnByte x xs own) i

-- ---- in JSON

escaped_one : (x : ℕ) → IsUnescaped x → escape_byte x ≡ x ∷ []
unfolding escape_byte
escaped_one x is = (let low = is.0 in let mark = is.1 in let solidus = is.2 in grind (arith, nat_tests))

-- such a text has two bytes more
pub length-quoted_unescaped : (text : Bytes) → AreUnescaped text → length (quoted text) ≡ length text + 2
length-quoted_unescaped text are =
    let size = length-append (escape text) (34 ∷ []) in
    let same = length-escape text are in
    omega arith
  where
    length-escape : (s : Bytes) → AreUnescaped s → length (escape s) ≡ length s
    length-escape [] all = refl
    length-escape (x ∷ s) all =
        let one = ap length (escaped_one x (All-head IsUnescaped x s all)) in
        let others = length-escape s (All-tail IsUnescaped x s all) in
        omega (arith, length-append (escape_byte x) (escape s))
