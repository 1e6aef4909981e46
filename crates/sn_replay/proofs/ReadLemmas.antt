-- The lines of a script that was read are what a call at both ends asks for.
use Rattle.std.proofs.Common.{ℕ, zero, suc, ◌<◌, List, [], ◌∷◌, All, length, get_or, arith}
use Rattle.sn_laws.specs.Each.{Each}
use Rattle.sn_script.specs.Grammar.{IsLine, Word}
use Rattle.sn_script.specs.Scripts.{AreLinesFrom, IsScript, lines_of}
use Rattle.sn_script.specs.declared.script.Line.{Line}
use Rattle.sn_script.specs.declared.script.Line.TheVariants as line
use Rattle.sn_replay.specs.Lines.{IsBounded}

line_bounded : (ws : List Word) (l : Line) → IsLine ws l → IsBounded l
line_bounded ws (line.Seed bytes) h = tt
line_bounded ws (line.Cost n) h = h.1
line_bounded ws (line.Clock n) h = tt
line_bounded ws (line.Register device identifier password fates) h = h.2.identified
line_bounded ws (line.SignIn device identifier password fates) h = h.2.identified
line_bounded ws (line.Put device fates text) h = tt
line_bounded ws (line.Edit device label fates text) h = tt
line_bounded ws (line.Delete device label fates) h = tt
line_bounded ws (line.Sync device fates) h = tt
line_bounded ws (line.Passwd device password fates) h = tt
line_bounded ws (line.Late device request) h = tt
line_bounded ws line.Show h = tt

lines_bounded : (place : ℕ) (texts : List (List ℕ)) (lines : List Line) → AreLinesFrom place texts lines → Each IsBounded lines
lines_bounded place [] [] h = tt
lines_bounded place [] (l ∷ lines) h = absurd h
lines_bounded place (text ∷ texts) [] h = tt
lines_bounded place (text ∷ texts) (l ∷ lines) h = (line_bounded _ l h.0.0, lines_bounded (suc place) texts lines h.1)

each_at : {A : Type 0} (P : A → Type 0) (xs : List A) (index : ℕ) (x : A) → Each P xs → index < length xs → P (get_or xs index x)
each_at P [] index x h lt = absurd (omega (arith, lt))
each_at P (y ∷ xs) zero x h lt = h.0
each_at P (y ∷ xs) (suc index) x h lt = each_at P xs index x h.1 (omega (arith, lt))

-- so are all lines of a text's script
pub read_bounded : (text : List ℕ) (lines : List Line) → IsScript text lines → All IsBounded lines
read_bounded text lines is k d lt = each_at IsBounded lines k d (lines_bounded 0 (lines_of text) lines is) lt
