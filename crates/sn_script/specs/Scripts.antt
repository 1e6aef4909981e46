-- Whole scripts.
use Rattle.std.specs.Prelude.{◌≡◌, ℕ, zero, suc, ◌<◌, List, [], ◌∷◌, Some, slice_get}
use Rattle.sn_script.specs.Grammar.{Word, parts, IsLine}
use Rattle.sn_script.specs.declared.script.Line.{Line}
use Rattle.sn_script.specs.declared.script.Line.TheVariants as line
use Rattle.sn_script.specs.declared.script.ScriptError.{ScriptError}
use Rattle.sn_script.specs.declared.script.ScriptError.TheVariants as refusal

-- the lines of a text are parted by line feeds; the last may end with one
abbrev pub without_last : List Word → List Word
without_last [] = []
without_last ([] ∷ []) = []
without_last (p ∷ ps) = p ∷ without_last ps

abbrev pub lines_of : List ℕ → List Word
lines_of text = without_last (parts 10 text)

-- a seed stands only on the first line
abbrev pub MayStandAt : ℕ → Line → Type 0
MayStandAt zero l = Unit {0}
MayStandAt (suc place) (line.Seed bytes) = ⊥
MayStandAt (suc place) l = Unit {0}

-- the text is this line at this place, counted from 0; words are parted by one blank
abbrev pub IsLineAt : ℕ → List ℕ → Line → Type 0
IsLineAt place text l = IsLine (parts 32 text) l × MayStandAt place l

-- the texts are these lines, from this place on
abbrev pub AreLinesFrom : ℕ → List (List ℕ) → List Line → Type 0
AreLinesFrom place [] [] = Unit {0}
AreLinesFrom place (text ∷ texts) (l ∷ ls) = IsLineAt place text l × AreLinesFrom (suc place) texts ls
AreLinesFrom place [] (l ∷ ls) = ⊥
AreLinesFrom place (text ∷ texts) [] = ⊥

-- the text is the script of these lines
abbrev pub IsScript : List ℕ → List Line → Type 0
IsScript text lines = AreLinesFrom 0 (lines_of text) lines

-- line n, counted from 1, is the first that is out of the grammar
pub record IsFirstWrong (text : List ℕ) (n : ℕ) : Type 0 where
  pub place : ℕ
  pub number_is : n ≡ suc place
  pub wrong_text : List ℕ
  pub there : slice_get (lines_of text) place ≡ Some wrong_text
  pub wrong : (l : Line) → ¬ (IsLineAt place wrong_text l)
  pub before : (k : ℕ) (earlier : List ℕ) → k < place → slice_get (lines_of text) k ≡ Some earlier → (l : Line) × IsLineAt k earlier l

-- why the text is refused, want of memory aside
abbrev pub IsScriptRefusal : List ℕ → ScriptError → Type 0
IsScriptRefusal text (refusal.Line n) = IsFirstWrong text n
IsScriptRefusal text refusal.Memory = Unit {0}
