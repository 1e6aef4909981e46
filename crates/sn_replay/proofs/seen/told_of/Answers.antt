use Rattle.std.proofs.Common.{◌≡◌, None, false, ap, sym, subst, ◌∙◌}
use Rattle.sn_row_map.specs.RowMaps.{row_in}
use Rattle.sn_rows.specs.Table.{Rows}
use Rattle.sn_telling.specs.Walking.{SaysWalk}
use Rattle.sn_replay.specs.Mirrored.{mirrored}
use Rattle.sn_replay.proofs.seen.told_of.Goals as goal

pub returns-clause-told : goal.returns-clause-told
returns-clause-told c =
    let name = c.args.name.now in
    let call = c.args.calling.now in
    let told = c.in_ok-told.told in
    let before : row_in c.take-rows.result ≡ mirrored c.args.devices.now name =
    c.take-rows.ensures.own ∙ ap (mirrored c.args.devices.now) c.as_str.ensures in
    let behind : row_in c.call_moves.new.device ≡ mirrored c.put.new.self name =
    sym (ap (mirrored c.put.new.self) (sym c.as_str-2.ensures) ∙ c.in_ok-put.ensures.own) in
    subst (λ (rows : Rows). SaysWalk call name (row_in c.args.server.now) rows false None c.args.batches c.args.exchanged told.moves told.begun
    (row_in c.call_moves.new.server) (mirrored c.put.new.self name)) before
    (subst (λ (rows : Rows). SaysWalk call name (row_in c.args.server.now) (row_in c.take-rows.result) false None c.args.batches c.args.exchanged
    told.moves told.begun (row_in c.call_moves.new.server) rows) behind c.in_ok-told.ensures.walk)

pub returns-clause-others : goal.returns-clause-others
returns-clause-others c =
    λ other apart.
    c.in_ok-put.ensures.others other (λ e. apart (e ∙ c.as_str-2.ensures)) ∙ c.take-rows.ensures.others other (λ e. apart (e ∙ c.as_str.ensures))
