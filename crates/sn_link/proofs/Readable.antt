-- A request within plain bounds is one that a server reads.
use Rattle.std.specs.Prelude.{◌≡◌, ◌⊎◌, ◌==◌, ◌++◌, ℕ, ◌+◌, ◌*◌, ◌<◌, ◌≤◌, nat_lt, nat_le, Bool, true, false, [], ◌∷◌, length, codes, decimal, IsTrue, if◌then◌else◌}
use Rattle.std.specs.Str.{bytes_eq, IsUtf8}
use Rattle.std.specs.List.{flat_map}
use Rattle.std.proofs.Common.{inl, inr, refl, sym, ◌∙◌, ap, subst, arith, length-append}
use Rattle.std.proofs.lemmas.Bool.{and_from, le-leb, lt-ltb}
use Rattle.std.proofs.lemmas.Fmt.{length-decimal-le}
use Rattle.std.proofs.lemmas.Grind.{flat_map-append}
use Rattle.std.proofs.lemmas.List.Elements.{All-append}
use Rattle.std.proofs.lemmas.List.Sums.{AllPass-from_list_all, list_all-from_AllPass}
use Rattle.std.proofs.lemmas.Bool.Decides.{nat_tests}
use Rattle.std.proofs.lemmas.Str.{IsUtf8-append, IsUtf8-from_ascii}
use Rattle.form_urlencoded.specs.Form.{IsUnchanged, byte_serialize, is_unchanged, serialize_byte}
use Rattle.form_urlencoded.proofs.FormLemmas.{All-byte_serialize, IsAscii-byte_serialize, IsSerializedByte, byte_serialize-cons, byte_serialize-nil}
use Rattle.json.proofs.Printed.Utf8.{IsUtf8-are_ascii}
use Rattle.httparse.specs.Grammar.{AllPass, IsToken, is_token_byte, is_uri_byte}
use Rattle.percent_encoding.specs.Percent.{percent_encode_byte}
use Rattle.sn_device.specs.Asking.{body_of, session_of, target_of}
use Rattle.sn_device.specs.States.{Bytes}
use Rattle.sn_http.specs.Fields.{Fields}
use Rattle.sn_http.specs.Lines.{close, content_length, content_type, line, only_if, section}
use Rattle.sn_http.specs.Options.{is_token_text, is_visible}
use Rattle.sn_http.specs.Requests.{credentials, request_fields, request_head, request_line}
use Rattle.sn_sync.specs.Fits.{FitsRequest}
use Rattle.sn_sync.specs.Members.{IsSessionToken}
use Rattle.sn_sync.specs.Query.{query_text}
use Rattle.sn_sync.specs.Requests.{route_of}
use Rattle.sn_sync.specs.Routes.{method_of}
use Rattle.sn_sync.specs.Written.{WritesRequest}
use Rattle.sn_sync.specs.declared.request.Request.{Request}
use Rattle.sn_sync.specs.declared.request.Request.TheVariants as request
use Rattle.sn_sync.specs.declared.request.Route.{Route}
use Rattle.sn_sync.specs.declared.request.Route.TheVariants as route
use Rattle.sn_link.specs.Laws.{ReadableWithin}

-- ---- methods and targets

method_token : (on : Route) → IsToken (method_of on)
unfolding is_token_byte
method_token route.Register = (omega arith, AllPass-from_list_all is_token_byte (codes "POST") refl)
method_token route.Params = (omega arith, AllPass-from_list_all is_token_byte (codes "GET") refl)
method_token route.SignIn = (omega arith, AllPass-from_list_all is_token_byte (codes "POST") refl)
method_token route.ChangePw = (omega arith, AllPass-from_list_all is_token_byte (codes "POST") refl)
method_token route.Sync = (omega arith, AllPass-from_list_all is_token_byte (codes "POST") refl)

short_method : (on : Route) → length (method_of on) ≤ 4
short_method route.Register = omega arith
short_method route.Params = omega arith
short_method route.SignIn = omega arith
short_method route.ChangePw = omega arith
short_method route.Sync = omega arith

-- ---- the query of a request for parameters

uri_byte : (b : ℕ) → 32 < b → b < 127 → IsTrue (is_uri_byte b)
uri_byte b low high = grind (arith, nat_tests)

unchanged_low : (b : ℕ) → IsUnchanged b → 32 < b
unchanged_low b kept = grind (arith, nat_tests)

unchanged_high : (b : ℕ) → IsUnchanged b → b < 127
unchanged_high b kept = grind (arith, nat_tests)

serialized_uri : (b : ℕ) → IsSerializedByte b → IsTrue (is_uri_byte b)
serialized_uri b x = elim x.allowed [
  | inl kept ↦ uri_byte b (unchanged_low b kept) (unchanged_high b kept)
  | inr (inl plus) ↦ uri_byte b (omega (arith, plus)) (omega (arith, plus))
  | inr (inr percent) ↦ uri_byte b (omega (arith, percent)) (omega (arith, percent))
]

serialized_all : (bytes : Bytes) → AllPass is_uri_byte (byte_serialize bytes)
serialized_all bytes = λ k d lt. serialized_uri _ (All-byte_serialize bytes k d lt)

three_at_most : (one two : Bool) (b : ℕ) → length (if one then b ∷ [] else (if two then 43 ∷ [] else percent_encode_byte b)) ≤ 3
unfolding percent_encode_byte
three_at_most true two b = omega arith
three_at_most false true b = omega arith
three_at_most false false b = omega arith

serialized_short : (bytes : Bytes) → length (byte_serialize bytes) ≤ 3 * length bytes
serialized_short [] = omega (arith, ap length byte_serialize-nil)
serialized_short (b ∷ bytes) =
    let first : length (serialize_byte b) ≤ 3 = three_at_most (is_unchanged b) (b == 32) b in
    omega (arith, ap length (byte_serialize-cons b bytes), length-append (serialize_byte b) (byte_serialize bytes), first, serialized_short bytes)

abbrev query_start : Bytes
query_start = codes "/auth/params?"

query_is : (identifier : Bytes) → target_of route.Params (query_text identifier) ≡ query_start ++ ((byte_serialize (codes "email") ++ 61 ∷ []) ++ byte_serialize identifier)
query_is identifier = refl

abbrev Uri : ℕ → Type 0
Uri b = IsTrue (is_uri_byte b)

query_form : (identifier : Bytes) → AllPass is_uri_byte (target_of route.Params (query_text identifier))
query_form identifier =
    All-append Uri query_start _ (AllPass-from_list_all is_uri_byte query_start refl)
    (All-append Uri (byte_serialize (codes "email") ++ 61 ∷ []) _
    (All-append Uri (byte_serialize (codes "email")) _ (serialized_all (codes "email")) (AllPass-from_list_all is_uri_byte (61 ∷ []) refl))
    (serialized_all identifier))

query_utf8 : (identifier : Bytes) → IsUtf8 (target_of route.Params (query_text identifier))
query_utf8 identifier =
    IsUtf8-append query_start _ (IsUtf8-are_ascii query_start refl)
    (IsUtf8-append (byte_serialize (codes "email") ++ 61 ∷ []) _
    (IsUtf8-append (byte_serialize (codes "email")) _ (IsUtf8-from_ascii _ (IsAscii-byte_serialize (codes "email"))) (IsUtf8-are_ascii (61 ∷ []) refl))
    (IsUtf8-from_ascii _ (IsAscii-byte_serialize identifier)))

query_short : (identifier : Bytes) → length identifier ≤ 254 → length (target_of route.Params (query_text identifier)) ≤ 800
query_short identifier few =
    omega (
      arith,
      few,
      serialized_short identifier,
      serialized_short (codes "email"),
      length-append query_start ((byte_serialize (codes "email") ++ 61 ∷ []) ++ byte_serialize identifier),
      length-append (byte_serialize (codes "email") ++ 61 ∷ []) (byte_serialize identifier),
      length-append (byte_serialize (codes "email")) (61 ∷ []),
    )

-- a target has its form, and is short
record IsTarget (target : Bytes) : Type 0 where
  form : (0 < length target) × AllPass is_uri_byte target
  text : IsUtf8 target
  short : length target ≤ 800

query_target : (identifier : Bytes) → length identifier ≤ 254 → IsTarget (target_of route.Params (query_text identifier))
query_target identifier few = record {
  form = (omega (arith, length-append query_start ((byte_serialize (codes "email") ++ 61 ∷ []) ++ byte_serialize identifier)), query_form identifier);
  text = query_utf8 identifier;
  short = query_short identifier few;
}

request_target : (r : Request) (text : Bytes) → FitsRequest r → WritesRequest r text → IsTarget (target_of (route_of r) text)
request_target (request.Register params pw) text fits writes =
    record { form = (omega arith, AllPass-from_list_all is_uri_byte (codes "/auth") refl); text = IsUtf8-are_ascii (codes "/auth") refl; short = omega arith }
request_target (request.Params identifier) text fits writes =
    subst (λ (t : Bytes). IsTarget (target_of route.Params t)) (sym writes) (query_target identifier fits.0.1)
request_target (request.SignIn identifier pw) text fits writes =
    record { form = (omega arith, AllPass-from_list_all is_uri_byte (codes "/auth/sign_in") refl); text = IsUtf8-are_ascii (codes "/auth/sign_in") refl; short = omega arith }
request_target (request.ChangePw token current pw cost nonce) text fits writes =
    record { form = (omega arith, AllPass-from_list_all is_uri_byte (codes "/auth/change_pw") refl); text = IsUtf8-are_ascii (codes "/auth/change_pw") refl; short = omega arith }
request_target (request.Sync token items limit sync_token cursor_token) text fits writes =
    record { form = (omega arith, AllPass-from_list_all is_uri_byte (codes "/items/sync") refl); text = IsUtf8-are_ascii (codes "/items/sync") refl; short = omega arith }

-- ---- heads

token_text : (token : Bytes) → IsSessionToken token → IsTrue (is_token_text token)
token_text token (some, few, all) =
    and_from (nat_lt 0 (length token)) _ (lt-ltb 0 (length token) some)
    (and_from (nat_le (length token) 1024) _ (le-leb (length token) 1024 few) (list_all-from_AllPass is_visible token (λ k d lt. visible _ (all k d lt))))
  where
    visible : (b : ℕ) → (33 ≤ b) × (b ≤ 126) → IsTrue (is_visible b)
    visible b (low, high) = and_from (nat_le 33 b) (nat_le b 126) (le-leb 33 b low) (le-leb b 126 high)

lines_size : (a b : Fields) → length (flat_map line (a ++ b)) ≡ length (flat_map line a) + length (flat_map line b)
lines_size a b = ap length (flat_map-append line a b) ∙ length-append (flat_map line a) (flat_map line b)

type_size : (post : Bool) → length (flat_map line (only_if post content_type)) ≤ 32
type_size true = omega arith
type_size false = omega arith

credentials_size : (token : Bytes) → length (flat_map line (credentials token)) ≤ length token + 24
credentials_size [] = omega arith
credentials_size (b ∷ token) = omega (arith, length-append (token ++ codes "\r\n") [], length-append token (codes "\r\n"))

length_size : (size : ℕ) → size ≤ 8388608 → length (flat_map line (content_length size)) ≤ 25
length_size size small = omega (arith, length-decimal-le 7 size (omega arith) (omega (arith, small)) (omega (arith, small)), length-append (decimal size ++ codes "\r\n") [], length-append (decimal size) (codes "\r\n"))

host_size : (host : Bytes) → length (line (codes "Host", host)) ≡ length host + 8
host_size host = omega (arith, length-append host (codes "\r\n"))

head_size : (method target host token : Bytes) (size : ℕ) → length method ≤ 4 → length target ≤ 800 → length host ≤ 1024 → length token ≤ 1024 → size ≤ 8388608
    → length (request_head method target host token size) ≤ 16384
head_size method target host token size short_method short_target short_host short_token small =
    let post = bytes_eq method (codes "POST") in
    let rest = only_if post content_type ++ credentials token ++ content_length size ++ close in
    omega (
      arith,
      short_method,
      short_target,
      short_host,
      short_token,
      length-append (request_line method target) (section (request_fields method host token size)),
      length-append method (codes " " ++ (target ++ codes " HTTP/1.1\r\n")),
      length-append target (codes " HTTP/1.1\r\n"),
      length-append (flat_map line (request_fields method host token size)) (codes "\r\n"),
      length-append (line (codes "Host", host)) (flat_map line rest),
      host_size host,
      lines_size (only_if post content_type ++ credentials token ++ content_length size) close,
      lines_size (only_if post content_type ++ credentials token) (content_length size),
      lines_size (only_if post content_type) (credentials token),
      type_size post,
      credentials_size token,
      length_size size small,
    )

token_short : (token : Bytes) → (token ≡ []) ⊎ IsSessionToken token → length token ≤ 1024
token_short token (inl none) = omega (arith, ap length none)
token_short token (inr is) = is.1

token_form : (token : Bytes) → (token ≡ []) ⊎ IsSessionToken token → (token ≡ []) ⊎ IsTrue (is_token_text token)
token_form token (inl none) = inl none
token_form token (inr is) = inr (token_text token is)

pub readable_within : ReadableWithin
readable_within host r fits visible short session body = record {
  fits = fits;
  writable = λ text writes.
      let target = request_target r text fits writes in
      record {
        method_form = method_token (route_of r);
        target_form = target.form;
        target_text = target.text;
        host_form = visible;
        token_form = token_form (session_of r) session;
        head_short = head_size (method_of (route_of r)) (target_of (route_of r) text) host (session_of r) (length (body_of (route_of r) text))
            (short_method (route_of r)) target.short short (token_short (session_of r) session) (body text writes);
        body_short = body text writes;
      };
}
