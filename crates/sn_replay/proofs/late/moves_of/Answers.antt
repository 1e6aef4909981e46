use Rattle.std.proofs.Common.{◌≡◌, List, Option, ap, sym, subst, ◌∙◌}
use Rattle.sn_laws.specs.Lookups.{Bytes}
use Rattle.sn_row_map.specs.RowMaps.{row_in}
use Rattle.sn_rows.specs.Table.{Rows}
use Rattle.sn_string.specs.declared.params.KeySet.{KeySet}
use Rattle.sn_telling.specs.Walking.{IsReadAs, SaysGained}
use Rattle.sn_replay.specs.Mirrored.{mirrored}
use Rattle.sn_replay.proofs.Telling.{by_name}
use Rattle.sn_replay.proofs.late.moves_of.Goals as goal

pub returns-clause-moves : goal.returns-clause-moves
returns-clause-moves c =
    let server : Rows = row_in c.args.server.now in
    let name : Bytes = c.args.device.now in
    let told = c.in_ok-moves.ensures.moves in
    let moves = c.in_ok-moves.moves in
    let rows : row_in c.take-rows.result ≡ mirrored c.args.devices.now name = c.take-rows.ensures.own ∙ ap (mirrored c.args.devices.now) c.as_str.ensures in (
      told.0,
      subst (λ (b : Bytes). IsReadAs b told.0) c.as_slice-request.ensures told.1,
      subst (λ (r : Rows). SaysGained server r name c.args.kept.now.begins told.0 c.args.batches moves) rows
          (subst (λ (b : Option KeySet). SaysGained server (row_in c.take-rows.result) name b told.0 c.args.batches moves) c.as_ref.ensures.value told.2),
    )

-- the rows were lent
pub returns-clause-devices : goal.returns-clause-devices
returns-clause-devices c =
    let name : Bytes = c.args.device.now in
    by_name (λ (n : Bytes). mirrored c.put.new.self n ≡ mirrored c.args.devices.now n) name
    (ap (mirrored c.put.new.self) (sym c.as_str-2.ensures) ∙ c.in_ok-put.ensures.own ∙ c.take-rows.ensures.own ∙ ap (mirrored c.args.devices.now) c.as_str.ensures)
    (λ other apart.
    c.in_ok-put.ensures.others other (λ e. apart (e ∙ c.as_str-2.ensures)) ∙ c.take-rows.ensures.others other (λ e. apart (e ∙ c.as_str.ensures)))
