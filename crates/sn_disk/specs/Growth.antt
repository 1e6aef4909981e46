-- How the record of a disk in memory grows.
use Rattle.std.specs.Prelude.{◌≡◌, ◌⊎◌, ◌≤◌, ◌<◌, ◌^◌, ℕ, Bool, false, List, [], ◌∷◌, ◌++◌, IsTrue}
use Rattle.std.proofs.Common.{inl, inr, refl, sym, ◌∙◌, ap, subst, arith, append_assoc, append-nil}
use Rattle.sn_io.specs.FaultPlan.{Plan}
use Rattle.sn_disk.specs.Steps.{Told, Step, stop_step, with_step, IsCall}
use Rattle.sn_disk.specs.Images.{image_in}
use Rattle.sn_disk.specs.Courses.{DiskState, Does, StopsIn, Runs}
use Rattle.sn_disk.specs.MemDisk.{disk_plan, disk_state, lists, HasListed, Counted, IsWanting, IsStopping, Grows}
use Rattle.sn_disk.specs.declared.memory.MemDisk.{MemDisk}

-- the record after a run of calls: the same start, and the same steps with more behind them
pub record Longer (old new : Told) : Type 0 where
  pub start : new.start ≡ old.start
  pub more : List Step
  pub steps : new.steps ≡ old.steps ++ more

longer_step : (old : Told) (step : Step) (new : Told) → new ≡ with_step old step → Longer old new
longer_step old step new is = record { start = ap (λ (t : Told). t.start) is; more = step ∷ []; steps = ap (λ (t : Told). t.steps) is }

longer_on : (a b c : Told) → Longer a b → Longer b c → Longer a c
longer_on a b c x y = record {
  start = y.start ∙ x.start;
  more = x.more ++ y.more;
  steps = y.steps ∙ ap (λ (l : List Step). l ++ y.more) x.steps ∙ append_assoc a.steps x.more y.more;
}

one_longer : (old new : DiskState) (call : Step) → Does old call new ⊎ StopsIn old call new → Longer old.told new.told
one_longer old new call (inl does) = longer_step old.told call new.told (ap (λ (c : DiskState). c.told) does.new_is)
one_longer old new call (inr stops) = longer_step old.told (stop_step (image_in stops.image old.told call)) new.told (ap (λ (c : DiskState). c.told) stops.new_is)

pub runs_longer : (old : DiskState) (calls : List Step) (new : DiskState) → Runs old calls new → Longer old.told new.told
runs_longer old [] new runs = record { start = ap (λ (c : DiskState). c.told.start) runs; more = []; steps = ap (λ (c : DiskState). c.told.steps) runs ∙ sym (append-nil old.told.steps) }
runs_longer old (call ∷ later) new runs = longer_on old.told runs.0.told new.told (one_longer old runs.0 call runs.2) (runs_longer runs.0 later new runs.3)

pub runs_on : (a : DiskState) (before : List Step) (b : DiskState) (later : List Step) (c : DiskState) → Runs a before b → Runs b later c → Runs a (before ++ later) c
runs_on a [] b later c x y = subst (λ (m : DiskState). Runs m later c) x y
runs_on a (call ∷ before) b later c x y = (x.0, x.1, x.2, runs_on x.0 before b later c x.3 y)

-- a disk that has stopped stays so
pub stays_stopped : (old : DiskState) (calls : List Step) (new : DiskState) → Runs old calls new → IsTrue old.stopped → IsTrue new.stopped
stays_stopped old [] new runs stopped = ap (λ (c : DiskState). c.stopped) runs ∙ stopped
stays_stopped old (call ∷ later) new runs stopped = absurd (elim runs.2 [ inl does ↦ contrary old.stopped stopped does.awake | inr stops ↦ contrary old.stopped stopped stops.awake ])
  where
    contrary : (b : Bool) → IsTrue b → b ≡ false → ⊥
    contrary b is_true is_false = cc

pub grows_same : (disk : MemDisk) → Grows disk disk
grows_same disk = record { calls = []; runs = refl; counted = record { listed = refl; calls = omega arith; wants = omega arith; faults = inl refl } }

more_listed : (one other : List ℕ) (a b c d : ℕ) → HasListed one b c → one ≡ other → a ≤ b → c ≤ d → HasListed other a d
more_listed one other a b c d has is less more = record { number = has.number; is = subst (λ (l : List ℕ). IsTrue (lists l has.number)) is has.is; from = omega (arith, has.from, less); to = omega (arith, has.to, more) }

counted_on : (a b c : MemDisk) (later : List Step) → Runs (disk_state b) later (disk_state c) → Counted a b → Counted b c → Counted a c
counted_on a b c later runs x y = record {
  listed = y.listed ∙ x.listed;
  calls = omega (arith, x.calls, y.calls);
  wants = omega (arith, x.wants, y.wants);
  faults = elim x.faults [
    | inl same ↦ elim y.faults [
      | inl also ↦ inl (also ∙ same)
      | inr (inl has) ↦ inr (inl (more_listed _ _ _ _ _ _ has x.listed x.calls (omega arith)))
      | inr (inr (inl stopped)) ↦ inr (inr (inl stopped))
      | inr (inr (inr rose)) ↦ inr (inr (inr (omega (arith, x.wants, rose))))
    ]
    | inr (inl has) ↦ inr (inl (more_listed _ _ _ _ _ _ has refl (omega arith) y.calls))
    | inr (inr (inl stopped)) ↦ inr (inr (inl (stays_stopped (disk_state b) later (disk_state c) runs stopped)))
    | inr (inr (inr rose)) ↦ inr (inr (inr (omega (arith, y.wants, rose))))
  ];
}

pub grows_on : (a b c : MemDisk) → Grows a b → Grows b c → Grows a c
grows_on a b c x y = record {
  calls = x.calls ++ y.calls;
  runs = runs_on (disk_state a) x.calls (disk_state b) y.calls (disk_state c) x.runs y.runs;
  counted = counted_on a b c y.calls y.runs x.counted y.counted;
}

-- a call that failed for want of memory
pub grows_wanting : (old new : MemDisk) → (disk_plan old).wants < 2 ^ 64 → IsWanting old new → Grows old new
grows_wanting old new small ends = record {
  calls = [];
  runs = ends.state;
  counted = record {
    listed = ap (λ (p : Plan). p.listed) ends.plan;
    calls = omega (arith, ap (λ (p : Plan). p.calls) ends.plan);
    wants = omega (arith, ap (λ (p : Plan). p.wants) ends.plan, small);
    faults = inr (inr (inr (omega (arith, ap (λ (p : Plan). p.wants) ends.plan))));
  };
}

-- a call in which the disk stopped
pub grows_stopping : (old new : MemDisk) (call : Step) → IsCall call → IsStopping call old new → Grows old new
grows_stopping old new call is_call ends = record {
  calls = call ∷ [];
  runs = (disk_state new, is_call, inr ends.stops, refl);
  counted = record {
    listed = ap (λ (p : Plan). p.listed) ends.plan;
    calls = omega (arith, ap (λ (p : Plan). p.calls) ends.plan);
    wants = omega (arith, ap (λ (p : Plan). p.wants) ends.plan);
    faults = inr (inr (inl (ap (λ (c : DiskState). c.stopped) ends.stops.new_is)));
  };
}

-- a call that was done
pub grows_doing : (old new : MemDisk) (call : Step) → IsCall call → Does (disk_state old) call (disk_state new) → disk_plan new ≡ disk_plan old → Grows old new
grows_doing old new call is_call does plan = record {
  calls = call ∷ [];
  runs = (disk_state new, is_call, inl does, refl);
  counted = record {
    listed = ap (λ (p : Plan). p.listed) plan;
    calls = omega (arith, ap (λ (p : Plan). p.calls) plan);
    wants = omega (arith, ap (λ (p : Plan). p.wants) plan);
    faults = inl (ap (λ (p : Plan). p.faults) plan);
  };
}
