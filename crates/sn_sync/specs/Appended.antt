-- For private clauses: what was appended to a text that is written a token at a time.
use Rattle.std.specs.Prelude.{◌≡◌, ◌≤◌, List, ◌∷◌, ◌++◌, Some}
use Rattle.json.specs.Token.{Token}
use Rattle.json.specs.Tree.{json_tokens}
use Rattle.json.specs.Written.{Written}
use Rattle.serde_json.specs.Data.{Data, depth}
use Rattle.serde_json.specs.Read.{max_depth, of_json}
use Rattle.serde_json.specs.Written.{outline}
use Rattle.sn_sync.specs.Members.{Bytes}

-- these tokens, behind those that were there
pub record Appends (old new : Written) (ts : List Token) : Type 0 where
  pub before : new.before ≡ old.before
  pub tokens : new.tokens ≡ old.tokens ++ ts

-- a value
abbrev pub AppendsValue : Written → Written → Data → Type 0
AppendsValue old new d = Appends old new (json_tokens (outline d))

-- a value under a name
abbrev pub AppendsMember : Written → Written → Bytes → Data → Type 0
AppendsMember old new name d = Appends old new (Token.key name ∷ json_tokens (outline d))

-- the value's tokens are read as the value
pub record IsReadable (d : Data) : Type 0 where
  pub reads : of_json (outline d) ≡ Some d
  pub shallow : depth d ≤ max_depth
