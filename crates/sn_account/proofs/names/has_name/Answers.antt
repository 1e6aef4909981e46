use Rattle.std.proofs.Common.{◌≡◌, ◌∙◌, Some, ap, sym}
use Rattle.std.specs.Option.{option_copied}
use Rattle.sn_row_map.specs.RowMaps.{row_in}
use Rattle.sn_rows.specs.declared.key.Key.TheVariants as key
use Rattle.sn_rows.specs.declared.server_rows.AccountRow.{AccountRow}
use Rattle.sn_rows.specs.declared.value.Value.TheVariants as value
use Rattle.sn_account.proofs.NamesLemmas.{name_found}
use Rattle.sn_account.proofs.names.has_name.Goals as goal

pub returns-in-Some-Account : goal.returns-in-Some-Account
returns-in-Some-Account c =
    let there : row_in c.args.rows.now (key.Account c.args.number) ≡ Some (value.Account c.in-Some-Account.row) =
    sym c.get.ensures ∙ ap option_copied c.in-Some-Account.is ∙ ap Some c.in-Some-Account.field-0-is in
    name_found c.args.rows.now c.args.number c.in-Some-Account.row c.args.identifier.now c.as_str.result.now c.eq.result there
    (c.as_str.ensures ∙ ap (λ (a : AccountRow). a.identifier) c.get-in-Some-Account.ensures) c.eq.ensures
