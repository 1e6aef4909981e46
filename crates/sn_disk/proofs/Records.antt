-- How the record of a disk in memory grows.
use Rattle.std.proofs.Common.{◌≡◌, ◌⊎◌, ◌≤◌, ◌<◌, inl, inr, ℕ, ◌+◌, List, [], ◌∷◌, ◌++◌, length, take, reverse, refl, sym, ◌∙◌, ap, subst, arith, length-append, length-take, replicate, map, Result, Ok, Err, IfOk}
use Rattle.std.proofs.lemmas.Bool.{cases_lt}
use Rattle.std.proofs.lemmas.List.{map-append, length-replicate, take_all, take-append-le, reverse-append}
use Rattle.sn_disk.specs.Disk.{Elapses, Follows, Torn, overwritten}
use Rattle.sn_disk.specs.Laws.{stays, torn_whole, cut_whole}
use Rattle.sn_disk.specs.Steps.{Step, write_step, cut_step, sync_step, stop_step, after_step, StepLeaves, replayed, Reaches, Told, with_step, IsKept, IsCall, Leaves, LeftSince}
use Rattle.sn_disk.specs.Images.{left_of, image_of, image_now, image_in}
use Rattle.sn_disk.specs.declared.images.CrashImage.{CrashImage}
use Rattle.sn_disk.specs.declared.images.CrashImage.TheVariants.{Old, New, Filled}
use Rattle.sn_disk.specs.Moments.{torn_refl}

-- the newest step stands first
newest : (steps : List Step) (step : Step) → reverse (steps ++ step ∷ []) ≡ step ∷ reverse steps
newest steps step = reverse-append steps (step ∷ [])

pub elapses_same : (told : Told) → Elapses (length told.steps) (length told.steps) (LeftSince told) (LeftSince told) (Leaves told)
elapses_same told = record { later = omega arith; nothing_else = λ t c le left. inl left; keeps = λ t c le left. left }

module _ (told : Told) (step : Step) where
  longer : length (told.steps ++ step ∷ []) ≡ length told.steps + 1
  longer = omega (arith, length-append told.steps (step ∷ []))

  front : (k : ℕ) → k ≤ length told.steps → take k (told.steps ++ step ∷ []) ≡ take k told.steps
  front k le = take-append-le k told.steps (step ∷ []) le

  was : (t : ℕ) (c : List ℕ) (left : LeftSince (with_step told step) t c) → (length told.steps < left.0) ⊎ (left.0 ≤ length told.steps) → LeftSince told t c ⊎ Leaves (with_step told step) c
  was t c left (inr le) = inl (left.0, left.1, le, subst (λ (l : List Step). Reaches told.start (reverse l) c) (front left.0 le) left.3)
  was t c left (inl lt) = inr (subst (λ (l : List Step). Reaches told.start (reverse l) c) (take_all left.0 (told.steps ++ step ∷ []) (omega (arith, longer))) left.3)

  pub elapses_more : Elapses (length told.steps) (length (with_step told step).steps) (LeftSince told) (LeftSince (with_step told step)) (Leaves (with_step told step))
  elapses_more = record {
    later = omega (arith, longer);
    nothing_else = λ t c le left. was t c left (cases_lt (length told.steps) left.0);
    keeps = λ t c le left. (left.0, left.1, omega (arith, left.2, longer), subst (λ (l : List Step). Reaches told.start (reverse l) c) (sym (front left.0 left.2)) left.3);
  }

-- a step goes from an outcome to an outcome
steps_on : (start : List ℕ) (earlier : List Step) (step : Step) (c : List ℕ) → Reaches start (step ∷ earlier) c → (d : List ℕ) × Reaches start earlier d × StepLeaves step d c
steps_on start earlier (write_step at bytes) c left = left
steps_on start earlier (cut_step len) c left = left
steps_on start earlier sync_step c left = (replayed start earlier, stays start earlier, left)
steps_on start earlier (stop_step bytes) c left = (replayed start earlier, stays start earlier, left)

pub follows_more : (told : Told) (step : Step) → Follows (StepLeaves step) (Leaves told) (Leaves (with_step told step))
follows_more told step = λ c left. steps_on told.start (reverse told.steps) step c (subst (λ (l : List Step). Reaches told.start l c) (newest told.steps step) left)

pub kept_more : (told : Told) (step : Step) → IsKept told → IsKept (with_step told step)
kept_more told step kept =
    ap (λ (file : List ℕ). after_step file step) kept ∙ sym (ap (λ (l : List Step). replayed told.start l) (newest told.steps step))

-- what a chosen image has of a step is one of its outcomes
pub left_leaves : (image : CrashImage) (d : List ℕ) (step : Step) → StepLeaves step d (left_of image d step)
left_leaves Old d (write_step at bytes) = torn_refl at (length bytes) d
left_leaves New d (write_step at bytes) = torn_whole at bytes d
left_leaves (Filled byte) d (write_step at bytes) = subst (λ (n : ℕ). Torn at n d (overwritten d at (replicate (length bytes) byte))) (length-replicate (length bytes) byte) (torn_whole at (replicate (length bytes) byte) d)
left_leaves Old d (cut_step len) = record { no_shorter = omega (arith, length-take len d); front = take_all (length d) d (omega arith) }
left_leaves New d (cut_step len) = cut_whole len d
left_leaves (Filled byte) d (cut_step len) = cut_whole len d
left_leaves Old d sync_step = refl
left_leaves New d sync_step = refl
left_leaves (Filled byte) d sync_step = refl
left_leaves Old d (stop_step left) = refl
left_leaves New d (stop_step left) = refl
left_leaves (Filled byte) d (stop_step left) = refl

-- what a chosen image has of all steps is one of their outcomes
pub image_reached : (image : CrashImage) (start : List ℕ) (steps : List Step) → Reaches start steps (image_of image start steps)
image_reached image start [] = refl
image_reached image start (write_step at bytes ∷ earlier) = (image_of image start earlier, image_reached image start earlier, left_leaves image (image_of image start earlier) (write_step at bytes))
image_reached image start (cut_step len ∷ earlier) = (image_of image start earlier, image_reached image start earlier, left_leaves image (image_of image start earlier) (cut_step len))
image_reached image start (sync_step ∷ earlier) = refl
image_reached image start (stop_step left ∷ earlier) = refl

-- a stop in a step leaves one of the outcomes of the step
pub follows_stop : (image : CrashImage) (told : Told) (step : Step) (left : List ℕ) → left ≡ image_in image told step → Follows (StepLeaves step) (Leaves told) (Leaves (with_step told (stop_step left)))
follows_stop image told step left is = λ c there.
    let same : c ≡ left = subst (λ (l : List Step). Reaches told.start l c) (newest told.steps (stop_step left)) there in
    (image_now image told, image_reached image told.start (reverse told.steps), subst (λ (f : List ℕ). StepLeaves step (image_now image told) f) (sym (same ∙ is)) (left_leaves image (image_now image told) step))

none_left : (step : Step) → IsCall step → (d : List ℕ) → StepLeaves step d d
none_left (write_step at bytes) call d = left_leaves Old d (write_step at bytes)
none_left (cut_step len) call d = left_leaves Old d (cut_step len)
none_left sync_step call d = refl
none_left (stop_step left) call d = absurd call

-- nothing of a call was left
pub follows_same : (told : Told) (step : Step) → IsCall step → Follows (StepLeaves step) (Leaves told) (Leaves told)
follows_same told step call = λ c left. (c, left, none_left step call c)

pub if_ok_then : {T E : Type 0} (result : Result T E) (P Q : T → Type 0) → ((x : T) → P x → Q x) → IfOk result P → IfOk result Q
if_ok_then (Ok x) P Q then p = then x p
if_ok_then (Err e) P Q then p = p

module _ {X : Type 0} (to : X → Step) (start : List ℕ) (before : List X) (next : X) where
  newest_of : reverse (map to (before ++ next ∷ [])) ≡ to next ∷ reverse (map to before)
  newest_of = ap (λ (l : List Step). reverse l) (map-append to before (next ∷ [])) ∙ newest (map to before) (to next)

  pub replayed_more : replayed start (reverse (map to (before ++ next ∷ []))) ≡ after_step (replayed start (reverse (map to before))) (to next)
  replayed_more = ap (λ (l : List Step). replayed start l) newest_of
