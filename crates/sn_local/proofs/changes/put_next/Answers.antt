use Rattle.std.proofs.Common.{ap}
use Rattle.sn_rows.specs.declared.device_rows.OwnerRow.{OwnerRow}
use Rattle.sn_device.specs.States.{owner_columns}
use Rattle.sn_device.specs.Steps.{with_next}
use Rattle.sn_local.proofs.ChangeLemmas.{puts_owner}
use Rattle.sn_local.proofs.changes.put_next.Goals as goal

pub returns : goal.returns
returns c =
    puts_owner c.put_owner.result _ (with_next c.args.next (owner_columns c.args.owner.now)) c.put_owner.ensures
    (ap (λ (o : OwnerRow). with_next c.args.next (owner_columns o)) c.in_ok-counted.ensures)
