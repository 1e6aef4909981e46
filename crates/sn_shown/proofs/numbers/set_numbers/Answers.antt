use Rattle.std.proofs.Common.{ℕ, ◌+◌, ◌≤◌, ◌∙◌, sym, refl, subst}
use Rattle.sn_row_map.specs.RowMaps.{row_in}
use Rattle.sn_rows.specs.declared.key.Key.TheVariants as key
use Rattle.sn_shown.proofs.NumberLemmas.{AreMaps, all_maps, counted, no_maps, one_map}
use Rattle.sn_shown.proofs.numbers.set_numbers.Goals as goal

pub accounts-init : goal.accounts-init
accounts-init c = λ s served. no_maps c.new-sets.result.items s.accounts 0 c.new-sets.ensures.items refl

pub accounts-preserved : goal.accounts-preserved
accounts-preserved c = λ s served.
    subst (λ ms. AreMaps ms s.accounts (c.accounts.index + 1)) (sym c.in_ok-push.ensures.items)
    (one_map c.accounts.sets.items c.in_ok-numbers.numbers s.accounts c.accounts.index (λ a at. c.in_ok-numbers.ensures s a served at)
    (c.accounts.invariant s served))

pub returns : goal.returns
returns c = λ s served.
    let count = c.account_count-index-end.ensures ∙ counted (row_in c.args.server.now key.Store) s.accounts served.accounts.store in
    all_maps c.accounts.sets.items s.accounts c.accounts.index (subst (λ (n : ℕ). n ≤ c.accounts.index) count c.accounts-test.false)
    (c.accounts.invariant s served)
