-- What undoes a call leads back to the bytes before it, and forth again.
use Rattle.std.proofs.Common.{◌≡◌, ◌≤◌, ◌+◌, ◌-◌, ℕ, suc, get_or, List, [], ◌∷◌, ◌++◌, length, take, drop, reverse, map, refl, sym, ◌∙◌, ap, subst, arith, append_assoc}
use Rattle.std.proofs.lemmas.List.{drop-drop, drop_at, length-map, length-reverse, length-take-le, map-append, reverse-append, take-append-drop, take_all, take_at, take_more}
use Rattle.sn_disk.specs.Disk.{overwritten}
use Rattle.sn_disk.specs.Images.{image_of}
use Rattle.sn_disk.specs.Record.{Back, write_back, cut_back, sync_back, stop_back, back_of, undone, step_back, first_of, steps_back, Redoes, newest_first, told_of, EndsHere}
use Rattle.sn_disk.specs.Steps.{Step, write_step, after_step, replayed, Told, with_step}
use Rattle.sn_disk.specs.declared.images.CrashImage.{CrashImage}
use Rattle.sn_disk.specs.declared.undo.Undo.{Undo}

-- ---- one call

module _ (file bytes : List ℕ) (at : ℕ) (within : at ≤ length file) where
  abbrev written : List ℕ
  written = overwritten file at bytes

  abbrev old : List ℕ
  old = take (length bytes) (drop at file)

  abbrev later : List ℕ
  later = drop (at + length bytes) file

  grouped : written ≡ take at file ++ (bytes ++ later)
  grouped = append_assoc (take at file) bytes later

  front : take at written ≡ take at file
  front = ap (λ (l : List ℕ). take at l) grouped ∙ take_at (take at file) (bytes ++ later) at (length-take-le at file within)

  rest : drop at written ≡ bytes ++ later
  rest = ap (λ (l : List ℕ). drop at l) grouped ∙ drop_at (take at file) (bytes ++ later) at (length-take-le at file within)

  behind : drop (length bytes) (drop at written) ≡ later
  behind = ap (λ (l : List ℕ). drop (length bytes) l) rest ∙ drop_at bytes later (length bytes) refl

  whole : (take at file ++ old) ++ later ≡ file
  whole = append_assoc (take at file) old later
      ∙ ap (λ (l : List ℕ). take at file ++ (old ++ l)) (sym (drop-drop (length bytes) at file))
      ∙ ap (λ (l : List ℕ). take at file ++ l) (take-append-drop (length bytes) (drop at file))
      ∙ take-append-drop at file

  pub write_undone : undone written (write_back at (length bytes) old) ≡ file
  write_undone = ap (λ (l : List ℕ). (l ++ old) ++ drop (length bytes) (drop at written)) front ∙ ap (λ (l : List ℕ). (take at file ++ old) ++ l) behind ∙ whole

  pub write_again : step_back written (write_back at (length bytes) old) ≡ write_step at bytes
  write_again = ap (λ (l : List ℕ). write_step at (take (length bytes) l)) rest ∙ ap (λ (l : List ℕ). write_step at l) (take_at bytes later (length bytes) refl)

pub cut_undone : (file : List ℕ) (len : ℕ) → undone (take len file) (cut_back len (drop len file)) ≡ file
cut_undone file len = take-append-drop len file

-- ---- the record

newest_more : (undos : List Undo) (undo : Undo) → newest_first (undos ++ undo ∷ []) ≡ back_of undo ∷ newest_first undos
newest_more undos undo = ap (λ (l : List Back). reverse l) (map-append back_of undos (undo ∷ [])) ∙ reverse-append (map back_of undos) (back_of undo ∷ [])

abbrev told : List ℕ → List ℕ → List Step → Told
told start bytes steps = record { start = start; bytes = bytes; steps = steps }

-- one call more, which leads from these bytes to the next
module _ (file next : List ℕ) (undos : List Undo) (undo : Undo) (step : Step) (back : undone next (back_of undo) ≡ file) (same : step_back next (back_of undo) ≡ step)
    (is : next ≡ after_step file step) where
  pub told_more : told_of next (undos ++ undo ∷ []) ≡ with_step (told_of file undos) step
  told_more = ap (λ (l : List Back). told (first_of next l) next (reverse (steps_back next l))) (newest_more undos undo)
      ∙ ap (λ (f : List ℕ). told (first_of f (newest_first undos)) next (reverse (step_back next (back_of undo) ∷ steps_back f (newest_first undos)))) back
      ∙ ap (λ (s : Step). told (first_of file (newest_first undos)) next (reverse (s ∷ steps_back file (newest_first undos)))) same
      ∙ ap (λ (l : List Step). told (first_of file (newest_first undos)) next l) (reverse-append (step ∷ []) (steps_back file (newest_first undos)))
      ∙ ap (λ (f : List ℕ). told (first_of file (newest_first undos)) f (reverse (steps_back file (newest_first undos)) ++ step ∷ [])) is

  leads : next ≡ after_step (undone next (back_of undo)) (step_back next (back_of undo))
  leads = is ∙ ap (λ (f : List ℕ). after_step f step) (sym back) ∙ ap (λ (s : Step). after_step (undone next (back_of undo)) s) (sym same)

  pub redoes_more : Redoes file (newest_first undos) → Redoes next (newest_first (undos ++ undo ∷ []))
  redoes_more redoes = subst (λ (l : List Back). Redoes next l) (sym (newest_more undos undo)) (leads, subst (λ (f : List ℕ). Redoes f (newest_first undos)) (sym back) redoes)

-- a write
module _ (file bytes next : List ℕ) (at : ℕ) (undos : List Undo) (undo : Undo) (within : at ≤ length file) (is : next ≡ overwritten file at bytes)
    (back : back_of undo ≡ write_back at (length bytes) (take (length bytes) (drop at file))) where
  was : undone next (back_of undo) ≡ file
  was = ap (λ (b : Back). undone next b) back ∙ ap (λ (f : List ℕ). undone f (write_back at (length bytes) (take (length bytes) (drop at file)))) is ∙ write_undone file bytes at within

  led : step_back next (back_of undo) ≡ write_step at bytes
  led = ap (λ (b : Back). step_back next b) back ∙ ap (λ (f : List ℕ). step_back f (write_back at (length bytes) (take (length bytes) (drop at file)))) is ∙ write_again file bytes at within

  pub told_written : told_of next (undos ++ undo ∷ []) ≡ with_step (told_of file undos) (write_step at bytes)
  told_written = told_more file next undos undo (write_step at bytes) was led is

  pub redoes_written : Redoes file (newest_first undos) → Redoes next (newest_first (undos ++ undo ∷ []))
  redoes_written = redoes_more file next undos undo (write_step at bytes) was led is

as_many : (file : List ℕ) (backs : List Back) → length (steps_back file backs) ≡ length backs
as_many file [] = refl
as_many file (last ∷ earlier) = ap (λ (n : ℕ). suc n) (as_many (undone file last) earlier)

pub moment_is : (file : List ℕ) (undos : List Undo) → length undos ≡ length (told_of file undos).steps
moment_is file undos = omega (arith, length-reverse (steps_back file (newest_first undos)), as_many file (newest_first undos), length-reverse (map back_of undos), length-map undos back_of)

-- ---- what a crash leaves

-- what reads give is what the calls make of the first bytes
pub redone : (file : List ℕ) (backs : List Back) → Redoes file backs → file ≡ replayed (first_of file backs) (steps_back file backs)
redone file [] redoes = refl
redone file (last ∷ earlier) redoes = redoes.0 ∙ ap (λ (l : List ℕ). after_step l (step_back file last)) (redone (undone file last) earlier redoes.1)

-- behind a sync or a stop a crash leaves what reads give
pub ends_here : (image : CrashImage) (file : List ℕ) (last : Back) (earlier : List Back) → Redoes file (last ∷ earlier) → EndsHere (step_back file last)
    → file ≡ image_of image (first_of file (last ∷ earlier)) (steps_back file (last ∷ earlier))
ends_here image file (write_back at count over) earlier redoes ends = absurd ends
ends_here image file (cut_back len tail) earlier redoes ends = absurd ends
ends_here image file sync_back earlier redoes ends = redone file earlier redoes.1
ends_here image file (stop_back before) earlier redoes ends = refl

-- ---- the last of some

pub split_last : (undos : List Undo) (last : Undo) → 1 ≤ length undos → last ≡ get_or undos (length undos - 1) last
    → newest_first undos ≡ back_of last ∷ newest_first (take (length undos - 1) undos)
split_last undos last some is =
    let front = length undos - 1 in
    let all : undos ≡ take (front + 1) undos = sym (take_all (front + 1) undos (omega arith)) in
    ap newest_first (all ∙ take_more undos front last (omega arith) ∙ ap (λ (u : Undo). take front undos ++ u ∷ []) (sym is)) ∙ newest_more (take front undos) last
