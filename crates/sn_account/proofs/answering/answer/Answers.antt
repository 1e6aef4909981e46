use Rattle.std.proofs.Common.{◌∙◌, ap, length, sym}
use Rattle.sn_account.specs.States.{state_rows}
use Rattle.sn_account.proofs.BatchSizes.{batch_ok}
use Rattle.sn_account.proofs.SyncLemmas.{sound_ok, spares_ok, within_ok}
use Rattle.sn_account.proofs.answering.answer.Goals as goal

pub returns-clause-sound : goal.returns-clause-sound
returns-clause-sound c =
    sound_ok (state_rows c.args.state.now) c.args.request.now c.args.now c.by_route.result c.requires.sound c.requires.within c.by_route.ensures

pub returns-clause-spares : goal.returns-clause-spares
returns-clause-spares c =
    spares_ok (state_rows c.args.state.now) c.args.request.now c.args.now c.by_route.result c.requires.sound c.requires.within c.by_route.ensures

pub returns-clause-within : goal.returns-clause-within
returns-clause-within c =
    within_ok (state_rows c.args.state.now) c.args.request.now c.args.now c.by_route.result c.requires.sound c.requires.within c.by_route.ensures

pub returns-clause-batch : goal.returns-clause-batch
returns-clause-batch c =
    batch_ok (state_rows c.args.state.now) c.store_of.result.now c.args.request.now c.args.now c.by_route.result c.store_of.ensures
    (ap length (sym c.secret_of-secret.ensures.is) ∙ c.secret_of-secret.ensures.size) c.requires.within c.by_route.ensures
