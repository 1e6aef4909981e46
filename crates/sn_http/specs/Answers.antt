-- The bytes of an answer that is written, and the answer in some bytes.
use Rattle.std.specs.Prelude.{◌≡◌, ℕ, ◌==◌, ◌≤◌, Bool, List, [], ◌∷◌, ◌++◌, length, codes, decimal, Ok, Result, if◌then◌else◌}
use Rattle.std.specs.Io.KnownBytes.{Appends}
use Rattle.std.specs.declared.option.Option.{Option}
use Rattle.httparse.specs.Grammar.{ResponseHead, ReadsResponse, print_response, status_code}
use Rattle.sn_http.specs.Fields.{Fields, fields_of, values_of, first_of}
use Rattle.sn_http.specs.Framing.{said_by, bounded}
use Rattle.sn_http.specs.Lines.{section, content_type, content_length, close, only_if, if_some}

-- the reason phrases (RFC 9110, 15) of the statuses that are answered
abbrev pub phrase : ℕ → List ℕ
phrase status =
    if status == 200 then codes "OK"
    else if status == 400 then codes "Bad Request"
    else if status == 401 then codes "Unauthorized"
    else if status == 404 then codes "Not Found"
    else if status == 405 then codes "Method Not Allowed"
    else if status == 409 then codes "Conflict"
    else if status == 411 then codes "Length Required"
    else if status == 413 then codes "Content Too Large"
    else if status == 501 then codes "Not Implemented"
    else if status == 503 then codes "Service Unavailable"
    else []

-- the method that is allowed (RFC 9110, 10.2.1), where there is one
abbrev pub allowed : List ℕ → Fields
allowed allow = if_some allow ((codes "Allow", allow) ∷ [])

-- the challenge to one without credentials (RFC 9110, 11.6.1)
abbrev pub challenge : ℕ → Fields
challenge status = only_if (status == 401) ((codes "WWW-Authenticate", codes "Bearer") ∷ [])

abbrev pub answer_fields : ℕ → List ℕ → Bool → ℕ → Fields
answer_fields status allow closing size = content_type ++ content_length size ++ allowed allow ++ challenge status ++ only_if closing close

-- the status line (RFC 9112, 4)
abbrev pub status_line : ℕ → List ℕ
status_line status = codes "HTTP/1.1 " ++ (decimal status ++ (codes " " ++ (phrase status ++ codes "\r\n")))

abbrev pub answer_head : ℕ → List ℕ → Bool → ℕ → List ℕ
answer_head status allow closing size = status_line status ++ section (answer_fields status allow closing size)

abbrev pub answer : ℕ → List ℕ → Bool → List ℕ → List ℕ
answer status allow closing body = answer_head status allow closing (length body) ++ body

-- Bytes went to a sink, of those that were held back and the new ones behind them. The others are held back.
abbrev pub Passes : Option (List ℕ) → Option (List ℕ) → List ℕ → List ℕ → List ℕ → Type 0
Passes before after old new piece = (gone : List ℕ) × Appends before after gone × (gone ++ new ≡ old ++ piece)

-- the input begins with this head, within the bounds, and goes on with the rest
pub record IsAnswerHead (input : List ℕ) (head : ResponseHead) (rest : List ℕ) : Type 0 where
  pub reads : ReadsResponse input head rest
  pub few : length head.fields ≤ 64
  pub short : length (print_response head) ≤ 16384

-- the length of an answer's body, which it has to say
unfoldable pub answer_size : Fields → Result ℕ ℕ
answer_size fields = bounded 33554432 (said_by (values_of (codes "content-length") fields) (first_of (values_of (codes "content-length") fields)))

-- these bytes are one answer, with nothing behind it
pub record IsAnswer (bytes : List ℕ) (status : ℕ) (body : List ℕ) : Type 0 where
  pub head : ResponseHead
  pub begins : IsAnswerHead bytes head body
  pub status_is : status ≡ status_code head
  pub sized : answer_size (fields_of head.fields) ≡ Ok (length body)
