use Rattle.std.proofs.Common.{◌≡◌, Option}
use Rattle.std.proofs.lemmas.Result.{IfOk-weaker}
use Rattle.sn_row_map.specs.RowMaps.{row_in}
use Rattle.sn_string.specs.declared.params.KeySet.{KeySet}
use Rattle.sn_sync.specs.Requests.{route_of}
use Rattle.sn_sync.specs.declared.request.Request.{Request}
use Rattle.sn_sync.specs.declared.request.Route.TheVariants as route
use Rattle.sn_saying.specs.Served.{IsServing}
use Rattle.sn_saying.proofs.LoneWorld.{serving_sync}
use Rattle.sn_saying.proofs.serving.sync_served.Goals as goal

pub returns-clause-moves : goal.returns-clause-moves
returns-clause-moves c =
    let server = row_in c.args.server.now in
    let device = row_in c.args.device.now in
    let name = c.args.name.now in
    IfOk-weaker c.items_served.result _
    (λ moves. (begins : Option KeySet) (request : Request) → route_of request ≡ route.Sync → IsServing server device name begins request c.args.changes moves)
    (λ moves says. serving_sync server device name c.args.changes moves says) c.items_served.ensures.moves
