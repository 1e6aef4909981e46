-- What a head says beside its body's length: the token of its credentials, and whether the connection is to close.
use Rattle.std.specs.Prelude.{ℕ, ◌==◌, ◌&&◌, ◌||◌, nat_lt, nat_le, Bool, List, [], ◌∷◌, length, take, drop, codes, slice_index_or, Some, None, if◌then◌else◌}
use Rattle.std.specs.declared.option.Option.{Option}
use Rattle.std.specs.List.{list_all, list_any, slice_split}
use Rattle.httparse.specs.Grammar.{trim_ows}
use Rattle.sn_http.specs.Fields.{Fields, is_word, values_of, first_of}

abbrev pub is_visible : ℕ → Bool
is_visible byte = nat_le 33 byte && nat_le byte 126

-- a token has 1 to 1,024 visible bytes
abbrev pub is_token_text : List ℕ → Bool
is_token_text text = nat_lt 0 (length text) && (nat_le (length text) 1024 && list_all is_visible text)

abbrev pub skip_spaces : List ℕ → List ℕ
skip_spaces [] = []
skip_spaces (byte ∷ bytes) = if byte == 32 then skip_spaces bytes else byte ∷ bytes

-- the text, if it has a token's form
abbrev pub if_token : List ℕ → List ℕ
if_token text = if is_token_text text then text else []

-- The token of credentials of the scheme Bearer (RFC 9110, 11.4; RFC 6750, 2.1): the scheme, spaces, the token.
-- Nothing where the credentials are others.
unfoldable pub bearer : List ℕ → List ℕ
bearer value = if is_word (codes "bearer") (take 6 value) && slice_index_or value 6 0 == 32 then if_token (skip_spaces (drop 6 value)) else []

abbrev pub bearer_of : Option (List ℕ) → List ℕ
bearer_of None = []
bearer_of (Some value) = bearer value

-- the token of a head, by its first Authorization
abbrev pub token_of : Fields → List ℕ
token_of fields = bearer_of (first_of (values_of (codes "authorization") fields))

-- the option close is one of a Connection's list (RFC 9110, 5.6.1 and 7.6.1)
abbrev pub names_close : List ℕ → Bool
names_close value = list_any (λ option. is_word (codes "close") (trim_ows option)) (slice_split (λ byte. byte == 44) value)

-- the connection closes behind the answer (RFC 9112, 9.3; one of HTTP/1.0 always does)
unfoldable pub closes : ℕ → Fields → Bool
closes minor fields = minor == 0 || list_any names_close (values_of (codes "connection") fields)
