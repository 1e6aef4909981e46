use Rattle.std.proofs.Common.{◌≡◌, Some, ap}
use Rattle.sn_shown.proofs.BodyLemmas.{carried, only_memory}
use Rattle.sn_shown.proofs.OpenedItems.{none_given}
use Rattle.sn_shown.proofs.opening.carried_nonce.Goals as goal

pub returns-in-Ok : goal.returns-in-Ok
returns-in-Ok c = λ params carries. ap (λ t. Some t) (carried c.args.text.now c.in-Ok.parts params c.in-Ok.ensures.ok carries)

pub returns-in-Err : goal.returns-in-Err
returns-in-Err c = λ params carries.
    none_given c.not_read.result (λ nonce. nonce ≡ Some params.pw_nonce)
    (c.not_read.ensures (only_memory c.args.text.now c.in-Err.error params c.in-Err.ensures.err carries))
