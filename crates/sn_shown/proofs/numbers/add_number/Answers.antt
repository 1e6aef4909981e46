use Rattle.std.proofs.Common.{◌≡◌, Some, sym, ap, ◌∙◌}
use Rattle.std.specs.BTreeMap.{get_by_text}
use Rattle.std.specs.Map.{update}
use Rattle.std.specs.Str.{bytes_eq}
use Rattle.std.specs.String.{string_bytes}
use Rattle.std.proofs.lemmas.Map.Text.{btree_map_updates_text}
use Rattle.sn_laws.specs.Lookups.{Bytes}
use Rattle.sn_row_map.specs.RowMaps.{row_in}
use Rattle.sn_shown.proofs.AccountLines.{own_identifier, own_row}
use Rattle.sn_shown.proofs.numbers.add_number.Goals as goal

pub returns-in_default : goal.returns-in_default
returns-in_default c = λ s a served at.
    own_row (row_in c.args.server.now) s.accounts a c.args.number served.accounts at (sym c.in_default.ensures)

pub returns : goal.returns
returns c = λ s a served at other.
    let identifier : string_bytes c.in_ok-identifier.identifier ≡ a.identifier =
    c.in_ok-identifier.ensures.ok
    ∙ c.as_str.ensures
    ∙ own_identifier (row_in c.args.server.now) s.accounts a c.args.number c.in-Some.row.now served.accounts at (sym c.in-Some.ensures) in
    btree_map_updates_text (string_bytes c.in_ok-identifier.identifier) c.args.numbers.now c.insert.new.self (Some c.args.number)
    c.in_ok-insert.ensures.updates other
    ∙ ap (λ (bs : Bytes). update bytes_eq (get_by_text c.args.numbers.now) bs (Some c.args.number) other) identifier
