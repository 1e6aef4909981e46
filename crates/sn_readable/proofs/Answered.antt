-- Where all requests have fates, all are readable.
use Rattle.std.proofs.Common.{[], ◌∷◌}
use Rattle.sn_device.specs.Runs.{asked, commits}
use Rattle.sn_world.specs.Calls.{rows_behind}
use Rattle.sn_readable.specs.Laws.{ReadableIfAnswered}

pub readable_if_answered : ReadableIfAnswered
readable_if_answered host server [] fates by over = tt
readable_if_answered host server (commits what changes ∷ acts) fates by over = readable_if_answered host server acts fates by over
readable_if_answered host server (asked r reply ∷ acts) [] by over = absurd over
readable_if_answered host server (asked r reply ∷ acts) (fate ∷ fates) (one, rest) (answered, others) =
    (one, readable_if_answered host (rows_behind server fate) acts fates (rest fate answered) others)
