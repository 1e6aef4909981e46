-- A session token is one of 1 to 1,024 visible characters, and an account's uuid has 16 bytes.
use Rattle.std.proofs.Common.{arith, ◌≡◌, sym, ap, refl, subst, ℕ, zero, suc, ◌+◌, ◌-◌, ◌*◌, ◌/◌, ◌%◌, ◌==◌, ◌<◌, ◌≤◌, Bool, List, [], ◌∷◌, ◌++◌, length, length-append, All, get_or, inl, inr}
use Rattle.std.specs.Prelude.{nat_lt, slice_index, if◌then◌else◌}
use Rattle.std.specs.Fmt.{decimal}
use Rattle.std.specs.Int.{to_be_bytes, w32}
use Rattle.std.proofs.lemmas.Bool.{cases_Bool}
use Rattle.std.proofs.lemmas.List.Elements.{All-append, All-cons, All-from_get_or, All-get_or, All-head, All-nil, All-tail}
use Rattle.hex.specs.Hex.{encode_lower, encode_with, lower_digits}
use Rattle.hex.proofs.HexLemmas.{length-encode_with}
use Rattle.sha2.specs.Sha256.{digest_bytes, sha256}
use Rattle.sha2.proofs.Facts256.{length-sha256}
use Rattle.uuid.specs.Text.{digit_place, hex_digit, hyphen, is_hyphen_place, lower, nibble}
use Rattle.uuid.proofs.TextLemmas.{by_index_at, by_index_length}
use Rattle.sn_hmac.specs.Hmac.{hmac_sha256}
use Rattle.sn_string.specs.Uuids.{uuid_text}
use Rattle.sn_sync.specs.Laws.{AreBytes}
use Rattle.sn_sync.specs.Members.{IsSessionToken}
use Rattle.sn_account.specs.Sessions.{account_uuid, session_token}
use Rattle.sn_account.proofs.AccountUuids.{IsUuidText-account}
use Rattle.sn_account.proofs.SessionTokens.{session_token-parts}

abbrev IsVisible : ℕ → Type 0
IsVisible c = (33 ≤ c) × (c ≤ 126)

-- ---- hex digits

abbrev IsByte : ℕ → Type 0
IsByte b = b < 256

-- characters, each visible; a record, so that a text may be given character by character
record AreVisible (xs : List ℕ) : Type 0 where
  all : All IsVisible xs

none_visible : AreVisible []
none_visible = record { all = All-nil IsVisible }

one_visible : {x : ℕ} {xs : List ℕ} → 33 ≤ x → x ≤ 126 → AreVisible xs → AreVisible (x ∷ xs)
one_visible {x} {xs} low high rest = record { all = All-cons IsVisible x xs (low, high) rest.all }

table_visible : AreVisible lower_digits
table_visible =
    one_visible (omega arith) (omega arith) (one_visible (omega arith) (omega arith) (one_visible (omega arith) (omega arith) (one_visible (omega arith) (omega arith)
    (one_visible (omega arith) (omega arith) (one_visible (omega arith) (omega arith) (one_visible (omega arith) (omega arith) (one_visible (omega arith) (omega arith)
    (one_visible (omega arith) (omega arith) (one_visible (omega arith) (omega arith) (one_visible (omega arith) (omega arith) (one_visible (omega arith) (omega arith)
    (one_visible (omega arith) (omega arith) (one_visible (omega arith) (omega arith) (one_visible (omega arith) (omega arith) (one_visible (omega arith) (omega arith)
    none_visible)))))))))))))))

digit_visible : (d : ℕ) → d < 16 → IsVisible (slice_index lower_digits d)
digit_visible d h = All-get_or IsVisible lower_digits d 0 h table_visible.all

hex_visible : (xs : List ℕ) → All IsByte xs → All IsVisible (encode_lower xs)
unfolding encode_with
hex_visible [] h = All-nil IsVisible
hex_visible (b ∷ xs) h =
    let byte : b < 256 = All-head IsByte b xs h in
    All-cons IsVisible (slice_index lower_digits (b / 16)) (slice_index lower_digits (b % 16) ∷ encode_lower xs) (digit_visible (b / 16) (omega arith))
    (All-cons IsVisible (slice_index lower_digits (b % 16)) (encode_lower xs) (digit_visible (b % 16) (omega arith)) (hex_visible xs (All-tail IsByte b xs h)))

record AreAllBytes (xs : List ℕ) : Type 0 where
  all : All IsByte xs

no_bytes : AreAllBytes []
no_bytes = record { all = All-nil IsByte }

one_byte : {x : ℕ} {xs : List ℕ} → x < 256 → AreAllBytes xs → AreAllBytes (x ∷ xs)
one_byte {x} {xs} fits rest = record { all = All-cons IsByte x xs fits rest.all }

word_bytes : (n : ℕ) → AreAllBytes (to_be_bytes w32 n)
word_bytes n = one_byte (omega arith) (one_byte (omega arith) (one_byte (omega arith) (one_byte (omega arith) no_bytes)))

digest_fits : (h : List ℕ) (n : ℕ) → All IsByte (digest_bytes h n)
unfolding digest_bytes
digest_fits h zero = All-nil IsByte
digest_fits h (suc n) = All-append IsByte (digest_bytes h n) (to_be_bytes w32 (slice_index h n)) (digest_fits h n) (word_bytes (slice_index h n)).all

sha_fits : (m : List ℕ) → All IsByte (sha256 m)
unfolding sha256
sha_fits m = digest_fits _ 8

-- ---- a uuid's text

char_visible : (d : ℕ) → d < 16 → IsVisible (hex_digit lower d)
char_visible d h =
    elim (cases_Bool (nat_lt d 10)) [
      | inl low ↦ subst IsVisible (sym (ap (λ (b : Bool). if b then 48 + d else lower + d - 10) low)) (omega arith, omega arith)
      | inr high ↦ subst IsVisible (sym (ap (λ (b : Bool). if b then 48 + d else lower + d - 10) high)) (omega arith, omega arith)
    ]

nibble_fits : (xs : List ℕ) (k : ℕ) → nibble xs k < 16
nibble_fits xs k =
    elim (cases_Bool (k % 2 == 0)) [
      | inl even ↦ subst (λ (x : ℕ). x < 16) (sym (ap (λ (b : Bool). if b then slice_index xs (k / 2) / 16 % 16 else slice_index xs (k / 2) % 16) even)) (omega arith)
      | inr odd ↦ subst (λ (x : ℕ). x < 16) (sym (ap (λ (b : Bool). if b then slice_index xs (k / 2) / 16 % 16 else slice_index xs (k / 2) % 16) odd)) (omega arith)
    ]

place_visible : (xs : List ℕ) (k : ℕ) → IsVisible (if is_hyphen_place k then hyphen else hex_digit lower (nibble xs (digit_place k)))
place_visible xs k =
    elim (cases_Bool (is_hyphen_place k)) [
      | inl it ↦ subst IsVisible (sym (ap (λ (b : Bool). if b then hyphen else hex_digit lower (nibble xs (digit_place k))) it)) (omega arith, omega arith)
      | inr not ↦ subst IsVisible (sym (ap (λ (b : Bool). if b then hyphen else hex_digit lower (nibble xs (digit_place k))) not))
          (char_visible (nibble xs (digit_place k)) (nibble_fits xs (digit_place k)))
    ]

uuid_visible : (xs : List ℕ) → All IsVisible (uuid_text xs)
uuid_visible xs = All-from_get_or IsVisible (uuid_text xs) 0 at
  where
    at : (k : ℕ) → k < length (uuid_text xs) → IsVisible (get_or (uuid_text xs) k 0)
    at k h =
        let long : length (uuid_text xs) ≡ 36 = by_index_length 36 _ in
        subst IsVisible (sym (by_index_at 36 _ k 0 (omega arith))) (place_visible xs k)

-- ---- the token

mac_length : (secret signed : List ℕ) → length (hmac_sha256 secret signed) ≡ 32
unfolding hmac_sha256
mac_length secret signed = length-sha256 _

mac_bytes : (secret signed : List ℕ) → All IsByte (hmac_sha256 secret signed)
unfolding hmac_sha256
mac_bytes secret signed = sha_fits _

pub token_fits : (secret : List ℕ) (n g : ℕ) → IsSessionToken (session_token secret n g)
token_fits secret n g =
    subst IsSessionToken (sym (session_token-parts secret n g)) (parts_fit (uuid_text (account_uuid n) ++ 58 ∷ decimal g))
  where
    parts_fit : (signed : List ℕ) → IsSessionToken (uuid_text (account_uuid n) ++ 46 ∷ encode_lower (hmac_sha256 secret signed))
    parts_fit signed =
        let mac : List ℕ = hmac_sha256 secret signed in
        let front : length (uuid_text (account_uuid n)) ≡ 36 = by_index_length 36 _ in
        let digest : length mac ≡ 32 = mac_length secret signed in
        let digits : length (encode_lower mac) ≡ 2 * length mac = length-encode_with lower_digits mac in
        let whole : length (uuid_text (account_uuid n) ++ 46 ∷ encode_lower mac) ≡ length (uuid_text (account_uuid n)) + length (46 ∷ encode_lower mac) =
        length-append (uuid_text (account_uuid n)) (46 ∷ encode_lower mac) in
        let rest : length (46 ∷ encode_lower mac) ≡ suc (length (encode_lower mac)) = refl in (
          omega arith,
          omega arith,
          All-append IsVisible (uuid_text (account_uuid n)) (46 ∷ encode_lower mac) (uuid_visible (account_uuid n))
              (All-cons IsVisible 46 (encode_lower mac) (omega arith, omega arith) (hex_visible mac (mac_bytes secret signed))),
        )

pub uuid_fits : (n : ℕ) → AreBytes 16 (account_uuid n)
uuid_fits n = ((IsUuidText-account n).count, (IsUuidText-account n).fit)
