use Rattle.std.proofs.Common.{◌≡◌, Some, sym, ap, ◌∙◌}
use Rattle.std.specs.BTreeMap.{get_by_text}
use Rattle.std.specs.Map.{update}
use Rattle.std.specs.Str.{bytes_eq}
use Rattle.std.specs.String.{string_bytes}
use Rattle.std.proofs.lemmas.Map.Text.{btree_map_updates_text}
use Rattle.sn_laws.specs.Lookups.{Bytes}
use Rattle.sn_row_map.specs.RowMaps.{row_in}
use Rattle.sn_shown.proofs.NumberLemmas.{no_nonce, own_nonce}
use Rattle.sn_shown.proofs.numbers.add_nonce.Goals as goal

pub returns-in_default : goal.returns-in_default
returns-in_default c = λ s a set served at is.
    no_nonce (row_in c.args.server.now) s c.args.account a served at c.args.number set is (sym c.in_default.ensures)

pub returns : goal.returns
returns c = λ s a set served at is other.
    let nonce : string_bytes c.in_ok-nonce.nonce ≡ set.params.pw_nonce =
    c.in_ok-nonce.ensures.ok
    ∙ c.as_str.ensures
    ∙ own_nonce (row_in c.args.server.now) s c.args.account a served at c.args.number set is c.in-Some.row.now (sym c.in-Some.ensures) in
    btree_map_updates_text (string_bytes c.in_ok-nonce.nonce) c.args.numbers.now c.insert.new.self (Some c.args.number)
    c.in_ok-insert.ensures.updates other
    ∙ ap (λ (bs : Bytes). update bytes_eq (get_by_text c.args.numbers.now) bs (Some c.args.number) other) nonce
