-- Texts that are JSON objects.
use Rattle.std.specs.Prelude.{ℕ, List, Bool, is_some, option_and_then}
use Rattle.serde_json.specs.Find.{as_object}
use Rattle.serde_json.specs.Read.{read}

-- an object text: `serde_json` reads it as an object
unfoldable pub is_object : List ℕ → Bool
is_object text = is_some (option_and_then as_object (read text))
