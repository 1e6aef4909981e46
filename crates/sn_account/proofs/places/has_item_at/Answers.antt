use Rattle.std.proofs.Common.{◌≡◌, ◌∙◌, Some, ap, sym}
use Rattle.std.specs.Option.{option_copied}
use Rattle.sn_row_map.specs.RowMaps.{row_in}
use Rattle.sn_rows.specs.declared.key.Key.TheVariants as key
use Rattle.sn_rows.specs.declared.value.Value.TheVariants as value
use Rattle.sn_account.proofs.PlaceLemmas.{item_found}
use Rattle.sn_account.proofs.places.has_item_at.Goals as goal

pub returns-in-Some-Item : goal.returns-in-Some-Item
returns-in-Some-Item c =
    let there : row_in c.args.rows.now (key.Item c.args.place.uuid) ≡ Some (value.Item c.in-Some-Item.row) =
    sym c.get.ensures ∙ ap option_copied c.in-Some-Item.is ∙ ap Some c.in-Some-Item.field-0-is in
    item_found c.args.rows.now c.args.place c.in-Some-Item.row c.is_at.result there c.is_at.ensures
