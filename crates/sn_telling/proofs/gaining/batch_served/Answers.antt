use Rattle.std.proofs.Common.{◌∙◌, subst}
use Rattle.std.proofs.lemmas.Result.{IfOk-weaker}
use Rattle.std.specs.Option.{option_copied}
use Rattle.sn_row_map.specs.RowMaps.{row_in}
use Rattle.sn_saying.specs.Served.{IsServing}
use Rattle.sn_sync.specs.declared.request.Request.{Request}
use Rattle.sn_telling.specs.Walking.{IsServingKnown}
use Rattle.sn_telling.proofs.KnownLemmas.{known_sync, known_whole}
use Rattle.sn_telling.proofs.gaining.batch_served.Goals as goal

pub returns-in-Sync-clause-moves : goal.returns-in-Sync-clause-moves
returns-in-Sync-clause-moves c =
    let server = row_in c.args.server.now in
    let device = row_in c.args.device.now in
    let name = c.args.name.now in
    let told = option_copied c.args.begins in
    IfOk-weaker c.sync_served.result _ (IsServingKnown server device name told c.args.request.now c.args.batch)
    (λ moves says r is. says told r (known_sync r (is ∙ c.in-Sync.is))) c.sync_served.ensures.moves

pub returns-in-Other-clause-moves : goal.returns-in-Other-clause-moves
returns-in-Other-clause-moves c =
    let server = row_in c.args.server.now in
    let device = row_in c.args.device.now in
    let name = c.args.name.now in
    let told = option_copied c.args.begins in
    IfOk-weaker c.served.result (IsServing server device name told c.in-Other.request c.args.batch)
    (IsServingKnown server device name told c.args.request.now c.args.batch)
    (λ moves says r is.
    subst (λ (q : Request). IsServing server device name told q c.args.batch moves) (known_whole r c.in-Other.request (is ∙ c.in-Other.is)) says)
    c.served.ensures.moves
