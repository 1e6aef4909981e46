-- The fields of a head (RFC 9110, 5), by names and values.
use Rattle.std.specs.Prelude.{ℕ, Bool, List, [], ◌∷◌, map, Some, None, if◌then◌else◌}
use Rattle.std.specs.declared.option.Option.{Option}
use Rattle.std.specs.Str.{bytes_eq}
use Rattle.std.specs.Char.{to_ascii_lowercase}
use Rattle.httparse.specs.Grammar.{Field}
use Rattle.httparse.specs.Spans.{name_and_value}

-- names and values, these without the white space around them
abbrev pub Fields : Type 0
Fields = List (List ℕ × List ℕ)

abbrev pub fields_of : List Field → Fields
fields_of fields = map name_and_value fields

-- names of fields, of schemes and of options compare without case (RFC 9110, 5.1, 7.6.1 and 11.1)
abbrev pub is_word : List ℕ → List ℕ → Bool
is_word word other = bytes_eq (map to_ascii_lowercase other) (map to_ascii_lowercase word)

-- the values of the fields of this name, in order
abbrev pub values_of : List ℕ → Fields → List (List ℕ)
values_of name [] = []
values_of name (field ∷ fields) = if is_word name field.0 then field.1 ∷ values_of name fields else values_of name fields

abbrev pub first_of : List (List ℕ) → Option (List ℕ)
first_of [] = None
first_of (value ∷ values) = Some value
