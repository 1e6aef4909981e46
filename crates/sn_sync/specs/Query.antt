-- The query of a request for parameters (the form syntax of the URL Standard, 5).
use Rattle.std.specs.Prelude.{◌≡◌, List, [], ◌∷◌, codes, Option, Some, None, if◌then◌else◌}
use Rattle.std.specs.Str.{bytes_eq}
use Rattle.std.specs.Str.Lossy.{utf8_lossy}
use Rattle.form_urlencoded.specs.Form.{append_pair, decode, raw_pairs}
use Rattle.sn_string.specs.Bounds.{IsIdentifier}
use Rattle.sn_sync.specs.Members.{Bytes}

-- the first value of this name among the pairs, as text
abbrev pub first_of : Bytes → List (Bytes × Bytes) → Option Bytes
first_of name [] = None
first_of name (p ∷ ps) = if bytes_eq (utf8_lossy (decode p.0)) name then Some (utf8_lossy (decode p.1)) else first_of name ps

abbrev pub first_value : Bytes → Bytes → Option Bytes
first_value name query = first_of name (raw_pairs query)

-- the query asks for the parameters of this account
abbrev pub AsksFor : Bytes → Bytes → Type 0
AsksFor query identifier = (first_value (codes "email") query ≡ Some identifier) × IsIdentifier identifier

-- the query that is written
abbrev pub query_text : Bytes → Bytes
query_text identifier = append_pair [] (codes "email") identifier
