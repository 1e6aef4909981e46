-- The words of a command line.
use Rattle.std.specs.Prelude.{ℕ, List, map, String, string_bytes}
use Rattle.std.specs.declared.alloc.Global.{Global}

-- each word as the list of its bytes
abbrev pub texts : List (String Global) → List (List ℕ)
texts words = map string_bytes words
