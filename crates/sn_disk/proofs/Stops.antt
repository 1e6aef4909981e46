-- In which call a disk in memory stops.
use Rattle.std.proofs.Common.{◌≡◌, inl, inr, ℕ, zero, suc, ◌-◌, ◌==◌, Bool, true, false, List, [], ◌∷◌, ◌++◌, length, reverse, Some, None, refl, sym, ◌∙◌, ap, arith, append_assoc, append-nil}
use Rattle.std.proofs.lemmas.Bool.{cases_Bool, eqb-true}
use Rattle.sn_disk.specs.Steps.{Step, stop_step}
use Rattle.sn_disk.specs.Images.{left_of, image_of, due, nearer}
use Rattle.sn_disk.specs.Courses.{DiskState, Does, StopsIn, Runs, AreDone, AreStopped, IsReachedInItsCall}
use Rattle.sn_disk.specs.declared.images.CrashImage.{CrashImage}
use Rattle.sn_disk.specs.declared.images.Stop.{Stop}
use Rattle.sn_disk.specs.declared.images.Stop.TheVariants.{Never, After}

contrary : (b : Bool) → b ≡ true → b ≡ false → ⊥
contrary b is_true is_false = cc

-- the stop before a call that was done, by the stop after it
farther : (stop : Stop) (more : ℕ) (image : CrashImage) → due stop ≡ None → nearer stop ≡ After more image → stop ≡ After (suc more) image
farther Never more image going is = absurd cc
farther (After zero i) more image going is = absurd cc
farther (After (suc n) i) more image going is =
    let less : suc n - 1 ≡ n = omega arith in
    let same : After n i ≡ After more image = sym (ap (λ (k : ℕ). After k i) less) ∙ is in cc

nearer_by_one : (stop : Stop) (more : ℕ) (image : CrashImage) → due stop ≡ None → stop ≡ After more image → (less : ℕ) × (more ≡ suc less) × (nearer stop ≡ After less image)
nearer_by_one stop zero image going is = absurd (let found : due stop ≡ Some image = ap due is in cc)
nearer_by_one stop (suc less) image going is = (less, refl, ap nearer is ∙ ap (λ (k : ℕ). After k image) (let same : suc less - 1 ≡ less = omega arith in same))

-- nothing is called after a stop
last_stop : (old : DiskState) (later : List Step) (new : DiskState) → old.stopped ≡ true → Runs old later new → (later ≡ []) × (new ≡ old)
last_stop old [] new stopped runs = (refl, runs)
last_stop old (call ∷ later) new stopped runs = absurd (elim runs.2 [ inl does ↦ contrary old.stopped stopped does.awake | inr stops ↦ contrary old.stopped stopped stops.awake ])

done_more : (old mid : DiskState) (call : Step) (later : List Step) (new : DiskState) → Does old call mid → AreDone mid later new → AreDone old (call ∷ later) new
done_more old mid call later new does are = record {
  steps = are.steps ∙ ap (λ (c : DiskState). c.told.steps ++ later) does.new_is ∙ append_assoc old.told.steps (call ∷ []) later;
  awake = are.awake;
  before = λ more image is.
      let near = nearer_by_one old.stop more image does.going is in
      let within = are.before near.0 image (ap (λ (c : DiskState). c.stop) does.new_is ∙ near.2) in
      omega (arith, within, near.1);
}

stopped_more : (old mid : DiskState) (call : Step) (later : List Step) (new : DiskState) → Does old call mid → AreStopped mid later new → AreStopped old (call ∷ later) new
stopped_more old mid call later new does are =
    let longer : mid.told.steps ++ are.front ≡ old.told.steps ++ call ∷ are.front = ap (λ (c : DiskState). c.told.steps ++ are.front) does.new_is ∙ append_assoc old.told.steps (call ∷ []) are.front in
    let start : mid.told.start ≡ old.told.start = ap (λ (c : DiskState). c.told.start) does.new_is in
    record {
      front = call ∷ are.front;
      last = are.last;
      image = are.image;
      are = ap (λ (l : List Step). call ∷ l) are.are;
      stop = farther old.stop (length are.front) are.image does.going (sym (ap (λ (c : DiskState). c.stop) does.new_is) ∙ are.stop);
      steps = are.steps
          ∙ ap (λ (s : List ℕ). (mid.told.steps ++ are.front) ++ stop_step (left_of are.image (image_of are.image s (reverse (mid.told.steps ++ are.front))) are.last) ∷ []) start
          ∙ ap (λ (l : List Step). l ++ stop_step (left_of are.image (image_of are.image old.told.start (reverse l)) are.last) ∷ []) longer;
      stopped = are.stopped;
    }

now_stopped : (old mid : DiskState) (call : Step) (later : List Step) (new : DiskState) → StopsIn old call mid → (later ≡ []) × (new ≡ mid) → AreStopped old (call ∷ later) new
now_stopped old mid call later new stops over = record {
  front = [];
  last = call;
  image = stops.image;
  are = ap (λ (l : List Step). call ∷ l) over.0;
  stop = at_once old.stop stops.image stops.image_due;
  steps = ap (λ (c : DiskState). c.told.steps) (over.1 ∙ stops.new_is)
      ∙ ap (λ (l : List Step). l ++ stop_step (left_of stops.image (image_of stops.image old.told.start (reverse l)) call) ∷ []) (sym (append-nil old.told.steps));
  stopped = ap (λ (c : DiskState). c.stopped) (over.1 ∙ stops.new_is);
}
  where
    at_once : (stop : Stop) (image : CrashImage) → due stop ≡ Some image → stop ≡ After 0 image
    at_once Never image is = absurd cc
    at_once (After zero i) image is = cc
    at_once (After (suc n) i) image is = absurd (elim (cases_Bool (suc n == 0)) [
      | inl at ↦ omega (arith, eqb-true (suc n) 0 at)
      | inr later ↦ let none : due (After (suc n) i) ≡ None = rw later refl in let both : None ≡ Some image = sym none ∙ is in cc
    ])

pub reached : IsReachedInItsCall
reached old [] new awake runs = inl (record { steps = ap (λ (c : DiskState). c.told.steps) runs ∙ sym (append-nil old.told.steps); awake = ap (λ (c : DiskState). c.stopped) runs ∙ awake; before = λ more image is. omega arith })
reached old (call ∷ later) new awake runs = elim runs.2 [
  | inl does ↦ elim (reached runs.0 later new (ap (λ (c : DiskState). c.stopped) does.new_is) runs.3) [
    | inl are ↦ inl (done_more old runs.0 call later new does are)
    | inr are ↦ inr (stopped_more old runs.0 call later new does are)
  ]
  | inr stops ↦ inr (now_stopped old runs.0 call later new stops (last_stop runs.0 later new (ap (λ (c : DiskState). c.stopped) stops.new_is) runs.3))
]
