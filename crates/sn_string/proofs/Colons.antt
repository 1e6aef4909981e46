-- No part of a 003 string has a colon in it.
use Rattle.std.proofs.Common.{arith, ◌≡◌, ◌∙◌, sym, ap, subst, ℕ, zero, suc, ◌+◌, ◌/◌, ◌%◌, ◌<◌, Bool, true, false, cond, not, List, [], ◌∷◌, ◌++◌, length, get_or, slice_index, refl, replicate, ◌*◌}
use Rattle.std.specs.List.{list_all, All}
use Rattle.std.proofs.lemmas.Bool.{and_parts, not-true}
use Rattle.std.proofs.lemmas.Bool.Decides.{nat_tests}
use Rattle.std.proofs.lemmas.List.Elements.{All-nil, All-cons, All-append, All-replicate}
use Rattle.std.proofs.lemmas.List.Splits.{slice_split_at, slice_split_none}
use Rattle.base64.specs.Engines.{standard}
use Rattle.base64.specs.GeneralPurpose.{engine_symbols}
use Rattle.base64.specs.Rfc4648.{encode_symbols, padding_len}
use Rattle.hex.specs.Hex.{encode_with, lower_digits}
use Rattle.uuid.specs.Text.{lower, hex_digit, nibble, digit_place, is_hyphen_place, hyphen}
use Rattle.uuid.proofs.TextLemmas.{by_index_at, by_index_length}
use Rattle.sn_string.specs.Base64.{IsBase64, base64_text}
use Rattle.sn_string.specs.Grammar.{is_colon, colon, joined, parts_of, version}
use Rattle.sn_string.specs.Hex.{IsLowerHex}
use Rattle.sn_string.specs.Uuids.{IsUuidText, uuid_text}

abbrev IsOther : ℕ → Type 0
IsOther byte = is_colon byte ≡ false

pub record HasNoColon (text : List ℕ) : Type 0 where
  pub all : All IsOther text

nil : HasNoColon []
nil = record { all = All-nil IsOther }

cons : {x : ℕ} {xs : List ℕ} → IsOther x → HasNoColon xs → HasNoColon (x ∷ xs)
cons {x} {xs} one rest = record { all = All-cons IsOther x xs one rest.all }

pub HasNoColon-version : HasNoColon version
HasNoColon-version = cons refl (cons refl (cons refl nil))

abbrev is_other : ℕ → Bool
is_other byte = not (is_colon byte)

-- a table without a colon gives none, at its places and past them
no_colon_at : (table : List ℕ) → list_all is_other table ≡ true → (k : ℕ) → IsOther (slice_index table k)
no_colon_at [] h k = refl
no_colon_at (x ∷ xs) h zero = not-true (is_colon x) (and_parts (is_other x) (list_all is_other xs) h).0
no_colon_at (x ∷ xs) h (suc k) = no_colon_at xs (and_parts (is_other x) (list_all is_other xs) h).1 k

digits : (table : List ℕ) → ((k : ℕ) → IsOther (slice_index table k)) → (bytes : List ℕ) → HasNoColon (encode_with table bytes)
unfolding encode_with
digits table at [] = nil
digits table at (b ∷ bytes) = cons (at (b / 16)) (cons (at (b % 16)) (digits table at bytes))

pub HasNoColon-hex : (n : ℕ) (text bytes : List ℕ) → IsLowerHex n text bytes → HasNoColon text
HasNoColon-hex n text bytes h =
    subst HasNoColon (sym h.spelled) (digits lower_digits (no_colon_at lower_digits refl) bytes)

uuid_digit : (d : ℕ) → IsOther (hex_digit lower d)
uuid_digit d = grind (arith, nat_tests)

uuid_character : (b : Bool) (d : ℕ) → IsOther (cond b hyphen (hex_digit lower d))
uuid_character true d = refl
uuid_character false d = uuid_digit d

pub HasNoColon-uuid : (text uuid : List ℕ) → IsUuidText text uuid → HasNoColon text
HasNoColon-uuid text uuid h =
    let character : ℕ → ℕ = λ k. cond (is_hyphen_place k) hyphen (hex_digit lower (nibble uuid (digit_place k))) in
    let long : length (uuid_text uuid) ≡ 36 = by_index_length 36 character in
    let at : (k d : ℕ) → k < length (uuid_text uuid) → IsOther (get_or (uuid_text uuid) k d) = λ k d within.
    subst IsOther (sym (by_index_at 36 character k d (omega arith))) (uuid_character (is_hyphen_place k) (nibble uuid (digit_place k))) in
    subst HasNoColon (sym h.spelled) (record { all = at })

symbols : (table : List ℕ) → ((k : ℕ) → IsOther (slice_index table k)) → (bytes : List ℕ) → HasNoColon (encode_symbols table bytes)
unfolding encode_symbols
symbols table at [] = nil
symbols table at (a ∷ []) = cons (at (a / 4)) (cons (at (a % 4 * 16)) nil)
symbols table at (a ∷ b ∷ []) = cons (at (a / 4)) (cons (at (a % 4 * 16 + b / 16)) (cons (at (b % 16 * 4)) nil))
symbols table at (a ∷ b ∷ c ∷ rest) =
    cons (at (a / 4)) (cons (at (a % 4 * 16 + b / 16)) (cons (at (b % 16 * 4 + c / 64)) (cons (at (c % 64)) (symbols table at rest))))

pub HasNoColon-base64_text : (bytes : List ℕ) → HasNoColon (base64_text bytes)
HasNoColon-base64_text bytes =
    let equals : ℕ = 61 in
    record {
      all = All-append IsOther (encode_symbols (engine_symbols standard) bytes) (replicate (padding_len (length bytes)) equals)
          (symbols (engine_symbols standard) (no_colon_at (engine_symbols standard) refl) bytes).all
          (All-replicate IsOther (padding_len (length bytes)) equals refl);
    }

pub HasNoColon-base64 : (text bytes : List ℕ) → IsBase64 text bytes → HasNoColon text
HasNoColon-base64 text bytes h = subst HasNoColon (sym h.spelled) (HasNoColon-base64_text bytes)

-- parts without a colon are the parts of what they join to
pub parts_of-two : (a rest : List ℕ) → HasNoColon a → parts_of (a ++ colon ∷ rest) ≡ a ∷ parts_of rest
parts_of-two a rest plain = slice_split_at is_colon a colon rest plain.all refl

pub parts_of-joined_six : (a b c d e f : List ℕ) → HasNoColon a → HasNoColon b → HasNoColon c → HasNoColon d → HasNoColon e → HasNoColon f
    → parts_of (joined (a ∷ b ∷ c ∷ d ∷ e ∷ f ∷ [])) ≡ a ∷ b ∷ c ∷ d ∷ e ∷ f ∷ []
parts_of-joined_six a b c d e f pa pb pc pd pe pf =
    parts_of-two a _ pa ∙ ap (λ l. a ∷ l) (parts_of-two b _ pb ∙ ap (λ l. b ∷ l) (parts_of-two c _ pc
    ∙ ap (λ l. c ∷ l) (parts_of-two d _ pd ∙ ap (λ l. d ∷ l) (parts_of-two e _ pe ∙ ap (λ l. e ∷ l) (slice_split_none is_colon f pf.all)))))
