-- How long a body is (RFC 9112, 6), or the status of the first check that the fields fail.
use Rattle.std.specs.Prelude.{ℕ, ◌&&◌, ◌||◌, not, nat_lt, nat_le, Bool, List, length, codes, Some, None, Ok, Err, if◌then◌else◌}
use Rattle.std.specs.declared.option.Option.{Option}
use Rattle.std.specs.declared.result.Result.{Result}
use Rattle.std.specs.Option.{is_some}
use Rattle.std.specs.List.{list_all}
use Rattle.std.specs.Str.{bytes_eq}
use Rattle.std.specs.Str.Parse.{digits_value}
use Rattle.std.specs.Char.{is_ascii_digit}
use Rattle.sn_http.specs.Fields.{Fields, is_word, values_of, first_of}

-- A transfer coding (RFC 9112, 6.1), or a content coding (RFC 9110, 8.4) that isn't the identity. Both are refused.
abbrev pub is_coded : Fields → Bool
is_coded fields = is_some (first_of (values_of (codes "transfer-encoding") fields)) || not (list_all (is_word (codes "identity")) (values_of (codes "content-encoding") fields))

-- a length has one to ten digits
abbrev pub is_length : List ℕ → Bool
is_length value = nat_lt 0 (length value) && (nat_le (length value) 10 && list_all is_ascii_digit value)

-- the number that a Content-Length says (RFC 9110, 8.6)
abbrev pub number_of : List ℕ → Option ℕ
number_of value = if is_length value then Some (digits_value 10 value) else None

-- several lengths are the same, or the message is refused (RFC 9112, 6.3)
abbrev pub all_same : List ℕ → List (List ℕ) → Bool
all_same value values = list_all (λ other. bytes_eq other value) values

-- the number that all of them say, by the first
abbrev pub said_by : List (List ℕ) → Option (List ℕ) → Option ℕ
said_by values None = None
said_by values (Some value) = if all_same value values then number_of value else None

-- A number that is no longer than the longest body, else the status of its refusal
abbrev pub bounded : ℕ → Option ℕ → Result ℕ ℕ
bounded most None = Err 400
bounded most (Some size) = if nat_le size most then Ok size else Err 413

-- without a length there is no body, and a POST is refused
abbrev pub body_size : List ℕ → List (List ℕ) → Option (List ℕ) → Result ℕ ℕ
body_size method values None = if bytes_eq method (codes "POST") then Err 411 else Ok 0
body_size method values (Some value) = bounded 8388608 (said_by values (Some value))

-- the body's length by the method and the fields, or the status of the first check that fails
unfoldable pub framing : List ℕ → Fields → Result ℕ ℕ
framing method fields = if is_coded fields then Err 501 else body_size method (values_of (codes "content-length") fields) (first_of (values_of (codes "content-length") fields))
