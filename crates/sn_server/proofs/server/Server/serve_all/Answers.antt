use Rattle.std.proofs.Common.{ℕ, ◌+◌, ◌++◌, [], ◌∷◌, inr, refl, sym, ◌∙◌, ap, subst, arith, length-append}
use Rattle.sn_server.specs.Steps.{after_all}
use Rattle.sn_server.specs.Stores.{Kept, IsOpen, MayHave}
use Rattle.sn_server.proofs.Running.{run_none, run_more, all_more, over_ends}
use Rattle.sn_server.proofs.server.Server.serve_all.Goals as goal

pub messages-init : goal.messages-init
messages-init g c = record {
  runs = λ kept stands. ([], run_none kept _, refl, stands);
  within = omega arith;
  sound = c.requires.sound;
  grows = g.met.D.Disk.growing.same _;
  later = omega arith;
}

pub messages-preserved : goal.messages-preserved
messages-preserved g c = record {
  runs = λ kept stands.
      let (steps, run, count, stands_now) = c.messages.invariant.runs kept stands in
      let (step, serves, stands_next, closes) = c.in-Served.ensures.ends (after_all kept steps) stands_now in (
        steps ++ step ∷ [],
        run_more kept steps step _ _ _ run serves (sym closes ∙ c.if-closing.false),
        omega (arith, count, length-append steps (step ∷ [])),
        subst (λ (k : Kept). IsOpen c.in-Served.next k) (sym (all_more kept steps step)) stands_next,
      );
  within = omega (arith, c.messages-test.true);
  sound = c.in-Served.ensures.sound;
  grows = g.met.D.Disk.growing.on _ _ _ c.messages.invariant.grows c.in-Served.ensures.grows;
  later = omega (arith, c.messages.invariant.later, c.in-Served.ensures.later);
}

pub returns-then-closing-clause-ends : goal.returns-then-closing-clause-ends
returns-then-closing-clause-ends g c = λ kept stands.
    let (steps, run, count, stands_now) = c.messages.invariant.runs kept stands in
    let (step, serves, stands_next, closes) = c.in-Served.ensures.ends (after_all kept steps) stands_now in
    (_, steps, inr (ap (λ (n : ℕ). n + 1) count, record { run = run; ends = (step, serves, stands_next, sym c.if-closing.true ∙ closes) }))

pub returns-in-Over-clause-ends : goal.returns-in-Over-clause-ends
returns-in-Over-clause-ends g c = λ kept stands.
    let (steps, run, count, stands_now) = c.messages.invariant.runs kept stands in
    over_ends IsOpen (MayHave g.D.Disk.told g.D.Disk.may_leave) kept c.args.budget _ _ _ steps c.in-Over.next c.in-Over.ended c.messages.count run count (c.in-Over.ensures.ends (after_all kept steps) stands_now)

pub returns-in-Lost-clause-ends : goal.returns-in-Lost-clause-ends
returns-in-Lost-clause-ends g c = λ kept stands.
    let (steps, run, count, stands_now) = c.messages.invariant.runs kept stands in
    (_, steps, record { run = run; ends = c.in-Lost.ensures.ends (after_all kept steps) stands_now })

pub returns-in-Checked-clause-ends : goal.returns-in-Checked-clause-ends
returns-in-Checked-clause-ends g c = λ kept stands.
    let (steps, run, count, stands_now) = c.messages.invariant.runs kept stands in
    (_, steps, ap (λ (n : ℕ). n + 1) count, record { run = run; ends = c.in-Checked.ensures.ends (after_all kept steps) stands_now })

pub returns-clause-ends : goal.returns-clause-ends
returns-clause-ends g c = λ kept stands.
    let (steps, run, count, stands_now) = c.messages.invariant.runs kept stands in
    (steps, run, count, omega (arith, c.messages-test.false, c.messages.invariant.within), stands_now)
