use Rattle.std.proofs.Common.{◌≡◌, Some, sym, ap, ◌∙◌}
use Rattle.std.specs.Option.{option_copied}
use Rattle.sn_row_map.specs.RowMaps.{row_in}
use Rattle.sn_rows.specs.declared.key.Key.TheVariants as key
use Rattle.sn_rows.specs.declared.value.Value.TheVariants as value
use Rattle.sn_saying.proofs.AccountLemmas.{nonce_of}
use Rattle.sn_saying.proofs.accounts.has_nonce.Goals as goal

pub returns-in-Some-Generation : goal.returns-in-Some-Generation
returns-in-Some-Generation c =
    let row = c.in-Some-Generation.row in
    let there : row_in c.args.server.now (key.Generation c.args.number c.args.generation) ≡ Some (value.Generation row) =
    sym c.get.ensures ∙ ap option_copied c.in-Some-Generation.is ∙ ap Some c.in-Some-Generation.field-0-is in (
      λ so. record { row = row; stands = there; nonce_is = c.same.ensures.0 so },
      λ has. c.same.ensures.1 (nonce_of (row_in c.args.server.now) c.args.number c.args.generation c.args.nonce.now row there has),
    )
