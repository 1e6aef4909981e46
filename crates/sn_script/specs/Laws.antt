-- What holds of every text.
use Rattle.std.specs.Prelude.{◌≡◌, ℕ, List}
use Rattle.sn_script.specs.Scripts.{IsScript}
use Rattle.sn_script.specs.declared.script.Line.{Line}

-- a text is the script of one list of lines at most
abbrev pub HasOneScript : Type 0
HasOneScript = (text : List ℕ) (one other : List Line) → IsScript text one → IsScript text other → one ≡ other
