-- The bytes of a request that is written.
use Rattle.std.specs.Prelude.{ℕ, List, [], ◌∷◌, ◌++◌, length, codes}
use Rattle.std.specs.Str.{bytes_eq}
use Rattle.sn_http.specs.Fields.{Fields}
use Rattle.sn_http.specs.Lines.{section, content_type, content_length, close, only_if, if_some}

-- the credentials of a token, where there is one
abbrev pub credentials : List ℕ → Fields
credentials token = if_some token ((codes "Authorization", codes "Bearer " ++ token) ∷ [])

abbrev pub request_fields : List ℕ → List ℕ → List ℕ → ℕ → Fields
request_fields method host token size = (codes "Host", host) ∷ (only_if (bytes_eq method (codes "POST")) content_type ++ credentials token ++ content_length size ++ close)

-- the request line (RFC 9112, 3)
abbrev pub request_line : List ℕ → List ℕ → List ℕ
request_line method target = method ++ (codes " " ++ (target ++ codes " HTTP/1.1\r\n"))

abbrev pub request_head : List ℕ → List ℕ → List ℕ → List ℕ → ℕ → List ℕ
request_head method target host token size = request_line method target ++ section (request_fields method host token size)

abbrev pub request : List ℕ → List ℕ → List ℕ → List ℕ → List ℕ → List ℕ
request method target host token body = request_head method target host token (length body) ++ body
