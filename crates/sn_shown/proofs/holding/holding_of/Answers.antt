use Rattle.std.proofs.Common.{Option, Some, None, sym, ap, ◌∙◌, subst}
use Rattle.std.specs.BTreeMap.{get_by_text}
use Rattle.std.specs.Option.{option_copied}
use Rattle.sn_row_map.specs.RowMaps.{row_in}
use Rattle.sn_rows.specs.declared.device_rows.SetRow.{SetRow}
use Rattle.sn_shown.specs.Held.{IsOfSlot}
use Rattle.sn_shown.specs.declared.holding.HeldSet.{HeldSet}
use Rattle.sn_shown.proofs.HoldingLemmas.{holds, no_number, no_present}
use Rattle.sn_shown.proofs.holding.holding_of.Goals as goal

pub returns-in_default-account : goal.returns-in_default-account
returns-in_default-account c = λ s name regular are shows.
    no_number (row_in c.args.rows.now) s name shows (get_by_text c.args.numbers.now.accounts) are.accounts_are c.in-Some.owner.now (sym c.in-Some.ensures)
    (ap (get_by_text c.args.numbers.now.accounts) (sym c.as_str.ensures) ∙ sym c.account.ensures ∙ c.in_default-account.is)

pub returns-in_default-2 : goal.returns-in_default-2
returns-in_default-2 c = λ s name regular are shows.
    no_present (row_in c.args.rows.now) s name shows (get_by_text c.args.numbers.now.accounts) are.accounts_are c.in-Some.owner.now (sym c.in-Some.ensures)
    c.in-Some-account.account
    (ap (get_by_text c.args.numbers.now.accounts) (sym c.as_str.ensures) ∙ sym c.account.ensures ∙ c.in-Some-account.is)
    (λ a at own.
    subst (λ (r : Option SetRow). IsOfSlot a r None) c.set_row.ensures
    (subst (λ (h : Option HeldSet). IsOfSlot a (option_copied c.set_row.result) h) c.in_default-2.is (c.in_ok-present.ensures s.accounts a are at own)))

pub returns : goal.returns
returns c = λ s name regular are shows.
    holds (row_in c.args.rows.now) s name shows (get_by_text c.args.numbers.now.accounts) are.accounts_are c.in-Some.owner.now (sym c.in-Some.ensures)
    c.in-Some-account.account
    (ap (get_by_text c.args.numbers.now.accounts) (sym c.as_str.ensures) ∙ sym c.account.ensures ∙ c.in-Some-account.is)
    c.in-Some-2.present c.in_ok-older.older
    (λ a at own.
    subst (λ (r : Option SetRow). IsOfSlot a r (Some c.in-Some-2.present)) c.set_row.ensures
    (subst (λ (h : Option HeldSet). IsOfSlot a (option_copied c.set_row.result) h) c.in-Some-2.is (c.in_ok-present.ensures s.accounts a are at own)))
    (λ a at own.
    subst (λ (r : Option SetRow). IsOfSlot a r c.in_ok-older.older) c.set_row-2.ensures (c.in_ok-older.ensures s.accounts a are at own))
    (regular.held name)
