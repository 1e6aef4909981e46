-- The heads that are written, by their lines.
use Rattle.std.specs.Prelude.{ℕ, Bool, List, [], ◌∷◌, ◌++◌, codes, decimal, if◌then◌else◌}
use Rattle.std.specs.List.{flat_map}
use Rattle.sn_http.specs.Fields.{Fields}

-- a field's line (RFC 9112, 5), with one space before the value
abbrev pub line : List ℕ × List ℕ → List ℕ
line field = field.0 ++ codes ": " ++ field.1 ++ codes "\r\n"

-- the lines of the fields, and the empty line behind them
abbrev pub section : Fields → List ℕ
section fields = flat_map line fields ++ codes "\r\n"

abbrev pub content_type : Fields
content_type = (codes "Content-Type", codes "application/json") ∷ []

abbrev pub content_length : ℕ → Fields
content_length size = (codes "Content-Length", decimal size) ∷ []

abbrev pub close : Fields
close = (codes "Connection", codes "close") ∷ []

-- the fields, where they are wanted
abbrev pub only_if : Bool → Fields → Fields
only_if wanted fields = if wanted then fields else []

-- the fields, where there is a text
abbrev pub if_some : List ℕ → Fields → Fields
if_some [] fields = []
if_some (byte ∷ bytes) fields = fields
