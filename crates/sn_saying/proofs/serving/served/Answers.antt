use Rattle.std.proofs.Common.{ap}
use Rattle.std.proofs.lemmas.Result.{IfOk-weaker}
use Rattle.std.specs.Option.{option_copied}
use Rattle.sn_row_map.specs.RowMaps.{row_in}
use Rattle.sn_sync.specs.Requests.{route_of}
use Rattle.sn_saying.specs.Served.{IsServing}
use Rattle.sn_saying.proofs.LoneWorld.{serving_sync}
use Rattle.sn_saying.proofs.serving.served.Goals as goal

pub returns-in-Sync-clause-moves : goal.returns-in-Sync-clause-moves
returns-in-Sync-clause-moves c =
    let server = row_in c.args.server.now in
    let device = row_in c.args.device.now in
    let name = c.args.name.now in
    let told = option_copied c.args.begins in
    IfOk-weaker c.items_served.result _ (IsServing server device name told c.args.request.now c.args.changes)
    (λ moves says. serving_sync server device name c.args.changes moves says told c.args.request.now (ap route_of c.in-Sync.is)) c.items_served.ensures.moves
