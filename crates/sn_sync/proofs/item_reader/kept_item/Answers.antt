use Rattle.std.proofs.Common.{inr}
use Rattle.sn_json.specs.Views.{view}
use Rattle.sn_sync.specs.Items.{RefusesCreated, RefusesKept}
use Rattle.sn_sync.specs.Standings.{RefusesRest, standing_of}
use Rattle.sn_sync.proofs.Chains.{IfErr-caused}
use Rattle.sn_sync.proofs.item_reader.kept_item.Goals as goal

pub returns-clause-err : goal.returns-clause-err
returns-clause-err c =
    let d = view c.args.value in
    let s = standing_of c.args.standing in
    IfErr-caused (RefusesCreated s d (RefusesRest s d)) (RefusesKept s d) c.kept_with.result
    (λ e later. inr ((_, c.in_ok-content.ensures.ok), inr ((_, c.in_ok-kind.ensures.ok), later))) c.kept_with.ensures.err
