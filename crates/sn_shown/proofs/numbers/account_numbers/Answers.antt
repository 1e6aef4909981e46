use Rattle.std.proofs.Common.{ℕ, ◌<◌, ◌≤◌, ◌∙◌, refl, subst}
use Rattle.std.specs.BTreeMap.{get_by_text}
use Rattle.sn_row_map.specs.RowMaps.{row_in}
use Rattle.sn_rows.specs.declared.key.Key.TheVariants as key
use Rattle.sn_shown.proofs.NumberLemmas.{Accounts, account_there, accounts_numbered, counted, identifier_of, no_account_numbered, one_numbered}
use Rattle.sn_shown.proofs.numbers.account_numbers.Goals as goal

pub accounts-init : goal.accounts-init
accounts-init c = λ s served. no_account_numbered (get_by_text c.new-numbers.result) s.accounts 0 refl

pub accounts-preserved : goal.accounts-preserved
accounts-preserved c = λ s served.
    let count = c.account_count-index-end.ensures ∙ counted (row_in c.args.server.now key.Store) s.accounts served.accounts.store in
    let here = account_there s.accounts c.accounts.index (subst (λ (n : ℕ). c.accounts.index < n) count c.accounts-test.true) in
    one_numbered (Accounts s.accounts) identifier_of (get_by_text c.accounts.numbers) (get_by_text c.add_number.new.numbers) c.accounts.index here.0
    served.regular.identifiers here.1 (c.in_ok-add_number.ensures s here.0 served here.1) (c.accounts.invariant s served)

pub returns : goal.returns
returns c = λ s served.
    let count = c.account_count-index-end.ensures ∙ counted (row_in c.args.server.now key.Store) s.accounts served.accounts.store in
    accounts_numbered (get_by_text c.accounts.numbers) s.accounts c.accounts.index (subst (λ (n : ℕ). n ≤ c.accounts.index) count c.accounts-test.false)
    (c.accounts.invariant s served)
