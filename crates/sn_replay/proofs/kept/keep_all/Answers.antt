use Rattle.std.proofs.Common.{◌≡◌, ℕ, length, List, Option, Some, None, refl, ap, sym, subst, ◌∙◌}
use Rattle.std.proofs.lemmas.Iterator.Adapters.{YieldsList-from_vec}
use Rattle.std.proofs.lemmas.Iterator.Consumers.{YieldsList-so_far}
use Rattle.std.proofs.lemmas.Option.{slice_get_past, slice_get_read}
use Rattle.std.specs.Prelude.{◌++◌, slice_get}
use Rattle.sn_laws.specs.Lookups.{Bytes}
use Rattle.sn_string.specs.declared.params.KeySet.{KeySet}
use Rattle.sn_replay.specs.declared.kept.Kept.{Kept}
use Rattle.sn_replay.proofs.Keeping.{kept_next, kept_so_far, place_next}
use Rattle.sn_replay.proofs.kept.keep_all.Goals as goal

pub returns-in_default : goal.returns-in_default
returns-in_default c =
    let begun : List (Option KeySet) = c.args.begun.now in
    let given = c.into_iter-request-iterator.result in
    let same : given.rest.items ≡ c.args.requests = cc in
    let long : given.rest.len ≡ length c.args.requests = cc (ap length same) in
    let so_far = YieldsList-so_far (YieldsList-from_vec {s = given} c.args.requests same long) c.requests.yielded c.requests.request-iterator c.requests.yielded_by in
    let none : slice_get begun c.requests.place ≡ None = slice_get_past begun c.requests.place c.in_default.ensures.lookup.3 in
    c.requests.invariant.kept
    ∙ ap (λ (ks : List Kept). c.args.kept.now ++ ks) (kept_so_far c.requests.yielded c.args.requests begun so_far
    (subst (λ (n : ℕ). slice_get begun n ≡ None) c.requests.invariant.place none))

pub requests-preserved : goal.requests-preserved
requests-preserved c =
    let begun : List (Option KeySet) = c.args.begun.now in
    let r : Bytes = c.in-Some.request in
    let found = c.in-Some-get.ensures.lookup in
    let at : slice_get begun c.requests.place ≡ Some c.in_ok-begins.begins =
    slice_get_read begun (length begun) c.requests.place c.in-Some-get.begins.now refl found.3.0 found.1 ∙ ap Some (sym c.in_ok-begins.ensures) in
    record {
      place = place_next c.requests.place c.requests.yielded r c.requests.invariant.place;
      kept = kept_next c.args.kept.now c.requests.kept c.push.new.self c.requests.yielded r begun c.in_ok-begins.begins c.requests.invariant.kept
          (subst (λ (n : ℕ). slice_get begun n ≡ Some c.in_ok-begins.begins) c.requests.invariant.place at) c.in_ok-push.ensures.ok;
    }
