-- The fields that are written, and what they say.
use Rattle.std.specs.Prelude.{◌≡◌, ◌⊎◌, ℕ, ◌==◌, ◌^◌, ◌<◌, ◌≤◌, ◌&&◌, ◌||◌, not, nat_lt, nat_le, Bool, true, false, List, [], ◌∷◌, ◌++◌, length, codes, decimal, Some, None, Ok, Err, IsTrue}
use Rattle.std.specs.declared.option.Option.{Option}
use Rattle.std.specs.Option.{is_some}
use Rattle.std.specs.List.{list_all, list_any}
use Rattle.std.specs.Str.Parse.{digits_value}
use Rattle.std.proofs.Common.{inl, inr, refl, ◌∙◌, ap, arith}
use Rattle.std.proofs.lemmas.Bool.{and_parts, and_from, cond-true, cond-false, le-leb}
use Rattle.std.proofs.lemmas.Fmt.{decimal_is_IsNumeral, length-decimal-le, decimal_nonempty}
use Rattle.std.proofs.lemmas.List.Sums.{AllPass-from_list_all}
use Rattle.std.proofs.lemmas.Slice.Eq.{bytes_eq-Decides}
use Rattle.httparse.specs.Grammar.{IsToken, is_token_byte, trim_ows}
use Rattle.sn_http.specs.Fields.{Fields, is_word, values_of, first_of}
use Rattle.sn_http.specs.Framing.{is_coded, is_length, number_of, all_same, said_by, bounded, body_size, framing}
use Rattle.sn_http.specs.Options.{is_visible, is_token_text, skip_spaces, if_token, bearer, bearer_of, token_of, names_close, closes}
use Rattle.sn_http.specs.Lines.{content_type, content_length, close, only_if}
use Rattle.sn_http.specs.Requests.{credentials}
use Rattle.sn_http.specs.Answers.{allowed, answer_size}
use Rattle.sn_http.proofs.Trims.{Written, AllWritten, both_written, trims, bearer_trims, values_pass, digits_visible, digits_ascii}

token_name : (name : List ℕ) → 0 < length name → list_all is_token_byte name ≡ true → IsToken name
token_name name some all = (some, AllPass-from_list_all is_token_byte name all)

plain : (name value : List ℕ) → IsToken name → list_all is_visible value ≡ true → Written (name, value)
plain name value token all = record { name = token; value = values_pass value all; trims = trims value all }

decimal_visible : (size : ℕ) → size < 2 ^ 64 → list_all is_visible (decimal size) ≡ true
decimal_visible size small = digits_visible (decimal size) (decimal_is_IsNumeral size small).0.1

pub host_written : (host : List ℕ) → list_all is_visible host ≡ true → Written (codes "Host", host)
unfolding is_token_byte
host_written host all = plain (codes "Host") host (token_name (codes "Host") (omega arith) refl) all

type_written : AllWritten content_type
unfolding is_token_byte
type_written = (plain (codes "Content-Type") (codes "application/json") (token_name (codes "Content-Type") (omega arith) refl) refl, tt)

length_written : (size : ℕ) → size < 2 ^ 64 → AllWritten (content_length size)
unfolding is_token_byte
length_written size small = (plain (codes "Content-Length") (decimal size) (token_name (codes "Content-Length") (omega arith) refl) (decimal_visible size small), tt)

close_written : AllWritten close
unfolding is_token_byte
close_written = (plain (codes "Connection") (codes "close") (token_name (codes "Connection") (omega arith) refl) refl, tt)

visible_token : (token : List ℕ) → is_token_text token ≡ true → list_all is_visible token ≡ true
visible_token token form =
    let parts = and_parts (nat_lt 0 (length token)) (nat_le (length token) 1024 && list_all is_visible token) form in
    (and_parts (nat_le (length token) 1024) (list_all is_visible token) parts.1).1

credentials_written : (token : List ℕ) → (token ≡ []) ⊎ IsTrue (is_token_text token) → AllWritten (credentials token)
unfolding is_token_byte
credentials_written [] form = tt
credentials_written (b ∷ bs) (inl none) = absurd (not_empty none)
  where
    not_empty : (b ∷ bs) ≡ [] → ⊥
    not_empty e = omega (arith, ap length e)
credentials_written (b ∷ bs) (inr form) =
    let token = b ∷ bs in
    let all = visible_token token form in
    let some : 0 < length token = omega arith in (
      record { name = token_name (codes "Authorization") (omega arith) refl; value = values_pass token all; trims = bearer_trims token some all },
      tt,
    )

allowed_written : (allow : List ℕ) → list_all is_visible allow ≡ true → AllWritten (allowed allow)
unfolding is_token_byte
allowed_written [] all = tt
allowed_written (b ∷ bs) all = (plain (codes "Allow") (b ∷ bs) (token_name (codes "Allow") (omega arith) refl) all, tt)

abbrev pub challenge_field : Fields
challenge_field = (codes "WWW-Authenticate", codes "Bearer") ∷ []

challenge_written : AllWritten challenge_field
unfolding is_token_byte
challenge_written = (plain (codes "WWW-Authenticate") (codes "Bearer") (token_name (codes "WWW-Authenticate") (omega arith) refl) refl, tt)

only_if_written : (wanted : Bool) (fields : Fields) → AllWritten fields → AllWritten (only_if wanted fields)
only_if_written true fields x = x
only_if_written false fields x = tt

abbrev pub request_with : List ℕ → Bool → List ℕ → ℕ → Fields
request_with host post token size = (codes "Host", host) ∷ (only_if post content_type ++ credentials token ++ content_length size ++ close)

abbrev pub answer_with : ℕ → List ℕ → Bool → Bool → Fields
answer_with size allow unauthorized closing = content_type ++ content_length size ++ allowed allow ++ only_if unauthorized challenge_field ++ only_if closing close

pub request_written : (host : List ℕ) (post : Bool) (token : List ℕ) (size : ℕ) → list_all is_visible host ≡ true → (token ≡ []) ⊎ IsTrue (is_token_text token) → size < 2 ^ 64 → AllWritten (request_with host post token size)
request_written host post token size visible form small = (
  host_written host visible,
  both_written (only_if post content_type ++ credentials token ++ content_length size) close
      (both_written (only_if post content_type ++ credentials token) (content_length size)
      (both_written (only_if post content_type) (credentials token) (only_if_written post content_type type_written) (credentials_written token form))
      (length_written size small))
      close_written,
)

pub answer_written : (size : ℕ) (allow : List ℕ) (unauthorized closing : Bool) → list_all is_visible allow ≡ true → size < 2 ^ 64 → AllWritten (answer_with size allow unauthorized closing)
answer_written size allow unauthorized closing visible small =
    both_written (content_type ++ content_length size ++ allowed allow ++ only_if unauthorized challenge_field) (only_if closing close)
    (both_written (content_type ++ content_length size ++ allowed allow) (only_if unauthorized challenge_field)
    (both_written (content_type ++ content_length size) (allowed allow)
    (both_written content_type (content_length size) type_written (length_written size small))
    (allowed_written allow visible))
    (only_if_written unauthorized challenge_field challenge_written))
    (only_if_written closing close close_written)

pub request_count : (host : List ℕ) (post : Bool) (token : List ℕ) (size : ℕ) → length (request_with host post token size) ≤ 64
request_count host true [] size = omega arith
request_count host true (b ∷ bs) size = omega arith
request_count host false [] size = omega arith
request_count host false (b ∷ bs) size = omega arith

pub answer_count : (size : ℕ) (allow : List ℕ) (unauthorized closing : Bool) → length (answer_with size allow unauthorized closing) ≤ 64
answer_count size [] true true = omega arith
answer_count size [] true false = omega arith
answer_count size [] false true = omega arith
answer_count size [] false false = omega arith
answer_count size (b ∷ bs) true true = omega arith
answer_count size (b ∷ bs) true false = omega arith
answer_count size (b ∷ bs) false true = omega arith
answer_count size (b ∷ bs) false false = omega arith

abbrev pub bearers : List ℕ → List (List ℕ)
bearers [] = []
bearers (b ∷ bs) = (codes "Bearer " ++ b ∷ bs) ∷ []

-- what a request's fields say
pub record Says (host : List ℕ) (post : Bool) (token : List ℕ) (size : ℕ) : Type 0 where
  pub transfer : values_of (codes "transfer-encoding") (request_with host post token size) ≡ []
  pub content : values_of (codes "content-encoding") (request_with host post token size) ≡ []
  pub lengths : values_of (codes "content-length") (request_with host post token size) ≡ decimal size ∷ []
  pub options : values_of (codes "connection") (request_with host post token size) ≡ codes "close" ∷ []
  pub tokens : values_of (codes "authorization") (request_with host post token size) ≡ bearers token

pub says : (host : List ℕ) (post : Bool) (token : List ℕ) (size : ℕ) → Says host post token size
says host true [] size = record { transfer = refl; content = refl; lengths = refl; options = refl; tokens = refl }
says host true (b ∷ bs) size = record { transfer = refl; content = refl; lengths = refl; options = refl; tokens = refl }
says host false [] size = record { transfer = refl; content = refl; lengths = refl; options = refl; tokens = refl }
says host false (b ∷ bs) size = record { transfer = refl; content = refl; lengths = refl; options = refl; tokens = refl }

pub answer_lengths : (size : ℕ) (allow : List ℕ) (unauthorized closing : Bool) → values_of (codes "content-length") (answer_with size allow unauthorized closing) ≡ decimal size ∷ []
answer_lengths size [] true true = refl
answer_lengths size [] true false = refl
answer_lengths size [] false true = refl
answer_lengths size [] false false = refl
answer_lengths size (b ∷ bs) true true = refl
answer_lengths size (b ∷ bs) true false = refl
answer_lengths size (b ∷ bs) false true = refl
answer_lengths size (b ∷ bs) false false = refl

length_said : (size : ℕ) → size < 10 ^ 10 → number_of (decimal size) ≡ Some size
length_said size small =
    let fits : size < 2 ^ 64 = omega arith in
    let numeral = decimal_is_IsNumeral size fits in
    let form : is_length (decimal size) ≡ true = and_from _ _ (le-leb 1 (length (decimal size)) (decimal_nonempty size fits))
    (and_from _ _ (le-leb (length (decimal size)) 10 (length-decimal-le 10 size (omega arith) small fits)) (digits_ascii (decimal size) numeral.0.1)) in
    cond-true (is_length (decimal size)) (Some (digits_value 10 (decimal size))) None form ∙ ap Some numeral.1

one_said : (size : ℕ) → size < 10 ^ 10 → said_by (decimal size ∷ []) (Some (decimal size)) ≡ Some size
one_said size small =
    cond-true (all_same (decimal size) (decimal size ∷ [])) (number_of (decimal size)) None
    (and_from _ _ ((bytes_eq-Decides (decimal size) (decimal size)).1 refl) refl)
    ∙ length_said size small

within : (most size : ℕ) → size ≤ most → bounded most (Some size) ≡ Ok size
within most size le = cond-true (nat_le size most) (Ok size) (Err 413) (le-leb size most le)

pub framing_is : (method : List ℕ) (host : List ℕ) (post : Bool) (token : List ℕ) (size : ℕ) → size ≤ 8388608 → framing method (request_with host post token size) ≡ Ok size
unfolding framing
framing_is method host post token size le =
    let said = says host post token size in
    let fields = request_with host post token size in
    let values = values_of (codes "content-length") fields in
    let uncoded : is_coded fields ≡ false =
    ap (λ (l : List (List ℕ)). is_some (first_of l) || not (list_all (is_word (codes "identity")) (values_of (codes "content-encoding") fields))) said.transfer
    ∙ ap (λ (l : List (List ℕ)). not (list_all (is_word (codes "identity")) l)) said.content in
    cond-false (is_coded fields) (Err 501) (body_size method values (first_of values)) uncoded
    ∙ ap (λ (l : List (List ℕ)). body_size method l (first_of l)) said.lengths
    ∙ ap (λ (o : Option ℕ). bounded 8388608 o) (one_said size (omega arith))
    ∙ within 8388608 size le

pub answer_size_is : (size : ℕ) (allow : List ℕ) (unauthorized closing : Bool) → size ≤ 33554432 → answer_size (answer_with size allow unauthorized closing) ≡ Ok size
unfolding answer_size
answer_size_is size allow unauthorized closing le =
    ap (λ (l : List (List ℕ)). bounded 33554432 (said_by l (first_of l))) (answer_lengths size allow unauthorized closing)
    ∙ ap (λ (o : Option ℕ). bounded 33554432 o) (one_said size (omega arith))
    ∙ within 33554432 size le

not_space : (b : ℕ) → is_visible b ≡ true → (b == 32) ≡ false
not_space b is = grind arith

bearer_back : (b : ℕ) (bs : List ℕ) → is_token_text (b ∷ bs) ≡ true → bearer (codes "Bearer " ++ b ∷ bs) ≡ b ∷ bs
unfolding bearer
bearer_back b bs form =
    let visible = (and_parts (is_visible b) (list_all is_visible bs) (visible_token (b ∷ bs) form)).0 in
    ap if_token (cond-false (b == 32) (skip_spaces bs) (b ∷ bs) (not_space b visible))
    ∙ cond-true (is_token_text (b ∷ bs)) (b ∷ bs) [] form

pub token_is : (host : List ℕ) (post : Bool) (token : List ℕ) (size : ℕ) → (token ≡ []) ⊎ IsTrue (is_token_text token) → token_of (request_with host post token size) ≡ token
token_is host post [] size form = ap (λ (l : List (List ℕ)). bearer_of (first_of l)) (says host post [] size).tokens
token_is host post (b ∷ bs) size (inl none) = absurd (not_empty none)
  where
    not_empty : (b ∷ bs) ≡ [] → ⊥
    not_empty e = omega (arith, ap length e)
token_is host post (b ∷ bs) size (inr form) = ap (λ (l : List (List ℕ)). bearer_of (first_of l)) (says host post (b ∷ bs) size).tokens ∙ bearer_back b bs form

pub closing_is : (host : List ℕ) (post : Bool) (token : List ℕ) (size : ℕ) → closes 1 (request_with host post token size) ≡ true
unfolding closes trim_ows
closing_is host post token size = ap (λ (l : List (List ℕ)). list_any names_close l) (says host post token size).options
