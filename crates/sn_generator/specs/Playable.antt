-- What a replay asks of a script's lines.
use Rattle.std.specs.Prelude.{◌≤◌}
use Rattle.sn_script.specs.declared.script.Line.{Line}
use Rattle.sn_script.specs.declared.script.Line.TheVariants as line
use Rattle.sn_string.specs.Bounds.{IsIdentifier}

-- an identifier has 1 to 254 bytes, and a cost is 1 at least
abbrev pub IsPlayable : Line → Type 0
IsPlayable (line.Register device identifier password fates) = IsIdentifier identifier
IsPlayable (line.SignIn device identifier password fates) = IsIdentifier identifier
IsPlayable (line.Cost n) = 1 ≤ n
IsPlayable l = Unit {0}
