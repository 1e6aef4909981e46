use Rattle.std.proofs.Common.{ℕ, ◌<◌, ◌≤◌, ◌∙◌, subst}
use Rattle.sn_row_map.specs.RowMaps.{row_in}
use Rattle.sn_rows.specs.declared.key.Key.TheVariants as key
use Rattle.sn_shown.proofs.AccountLines.{own_lines_all, own_lines_more}
use Rattle.sn_shown.proofs.NumberLemmas.{counted}
use Rattle.sn_shown.proofs.account_lines.first_lists.Goals as goal

pub accounts-preserved : goal.accounts-preserved
accounts-preserved c = λ s served.
    let count = c.account_count-index-end.ensures ∙ counted (row_in c.args.server.now key.Store) s.accounts served.accounts.store in
    own_lines_more s.accounts c.accounts.index c.accounts.lists.items c.push.new.self.items c.in_ok-list.list
    (subst (λ (n : ℕ). c.accounts.index < n) count c.accounts-test.true)
    (λ a at. c.in_ok-list.ensures s a served at) (c.accounts.invariant s served) c.in_ok-push.ensures.items

pub returns : goal.returns
returns c = λ s served.
    let count = c.account_count-index-end.ensures ∙ counted (row_in c.args.server.now key.Store) s.accounts served.accounts.store in
    own_lines_all s.accounts c.accounts.index c.accounts.lists.items (subst (λ (n : ℕ). n ≤ c.accounts.index) count c.accounts-test.false)
    (c.accounts.invariant s served)
