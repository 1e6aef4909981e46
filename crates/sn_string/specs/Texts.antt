-- The bytes of a text, whether it is owned or of the program's own.
use Rattle.std.specs.Prelude.{ℕ, List, string_bytes}
use Rattle.sn_string.specs.declared.text.Text.TheInside.{Inside}
use Rattle.sn_string.specs.declared.text.Kept.{Kept}
use Rattle.sn_string.specs.declared.text.Kept.TheVariants.{Owned, Fixed}

abbrev kept_bytes : Kept → List ℕ
kept_bytes (Owned text) = string_bytes text
kept_bytes (Fixed text) = text.now

abbrev pub text_bytes : Inside → List ℕ
text_bytes t = kept_bytes t.kept
