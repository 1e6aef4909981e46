use Rattle.std.proofs.Common.{ℕ, ◌<◌, ◌≤◌, ◌∙◌, refl, subst}
use Rattle.std.specs.BTreeMap.{get_by_text}
use Rattle.sn_row_map.specs.RowMaps.{row_in}
use Rattle.sn_shown.proofs.NumberLemmas.{SetsOf, no_set_numbered, nonce_of, nonces_apart, one_numbered, set_there, sets_counted, sets_numbered}
use Rattle.sn_shown.proofs.numbers.nonce_numbers.Goals as goal

pub sets-init : goal.sets-init
sets-init c = λ s a served at. no_set_numbered (get_by_text c.new-numbers.result) a 0 refl

pub sets-preserved : goal.sets-preserved
sets-preserved c = λ s a served at.
    let count = c.set_count-index-end.ensures ∙ sets_counted (row_in c.args.server.now) s c.args.account a served at in
    let here = set_there a.sets c.sets.index (subst (λ (n : ℕ). c.sets.index < n) count c.sets-test.true) in
    one_numbered (SetsOf a) nonce_of (get_by_text c.sets.numbers) (get_by_text c.add_nonce.new.numbers) c.sets.index here.0
    (nonces_apart (row_in c.args.server.now) s c.args.account a served at) here.1 (c.in_ok-add_nonce.ensures s a here.0 served at here.1)
    (c.sets.invariant s a served at)

pub returns : goal.returns
returns c = λ s a served at.
    let count = c.set_count-index-end.ensures ∙ sets_counted (row_in c.args.server.now) s c.args.account a served at in
    sets_numbered (get_by_text c.sets.numbers) a c.sets.index (subst (λ (n : ℕ). n ≤ c.sets.index) count c.sets-test.false)
    (c.sets.invariant s a served at)
