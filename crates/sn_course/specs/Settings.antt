-- What the settings of a script are at a line, and what is drawn there.
use Rattle.std.specs.Prelude.{◌≡◌, ℕ, [], ◌∷◌, ◌++◌, take, drop}
use Rattle.std.specs.Int.{w64, from_be_bytes, to_be_bytes}
use Rattle.std.specs.Int.RustNames.{bit_xor}
use Rattle.std.specs.List.{repeat}
use Rattle.rand_chacha.specs.ChaCha.{ChaCha, of_seed}
use Rattle.sn_laws.specs.Lookups.{Bytes}
use Rattle.sn_script.specs.declared.script.Line.{Line}
use Rattle.sn_script.specs.declared.script.Line.TheVariants as line
use Rattle.sn_course.specs.declared.settings.Settings.{Settings}

-- before any line: a seed of zeros, cost 1, and the clock at 0
pub record AreFirst (settings : Settings) : Type 0 where
  pub seed : settings.seed ≡ repeat 32 (0 ∷ [])
  pub cost : settings.cost ≡ 1
  pub clock : settings.clock ≡ 0

-- what a line leaves of the settings
abbrev pub settings_after : Settings → Line → Settings
settings_after s (line.Seed bytes) = record s { seed = bytes }
settings_after s (line.Cost n) = record s { cost = n }
settings_after s (line.Clock n) = record s { clock = n }
settings_after s (line.Register device identifier password fates) = s
settings_after s (line.SignIn device identifier password fates) = s
settings_after s (line.Put device fates text) = s
settings_after s (line.Edit device label fates text) = s
settings_after s (line.Delete device label fates) = s
settings_after s (line.Sync device fates) = s
settings_after s (line.Passwd device password fates) = s
settings_after s (line.Late device request) = s
settings_after s line.Show = s

-- the seed of a line: the seed that is set, with the line's number mixed into its last 8 bytes
abbrev pub line_seed : Bytes → ℕ → Bytes
line_seed seed number = take 24 seed ++ to_be_bytes w64 (bit_xor (from_be_bytes w64 (drop 24 seed)) number)

-- the words of a line; each end draws them from their start
abbrev pub words_of : Settings → ℕ → ChaCha
words_of s number = of_seed (line_seed s.seed number)
