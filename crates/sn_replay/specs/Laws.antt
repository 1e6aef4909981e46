-- What holds of every script.
use Rattle.std.specs.Prelude.{ℕ, List, All}
use Rattle.sn_script.specs.Scripts.{IsScript}
use Rattle.sn_script.specs.declared.script.Line.{Line}
use Rattle.sn_replay.specs.Lines.{IsBounded}

-- each line of a text's script is what a replay asks
abbrev pub AreReadBounded : Type 0
AreReadBounded = (text : List ℕ) (lines : List Line) → IsScript text lines → All IsBounded lines
