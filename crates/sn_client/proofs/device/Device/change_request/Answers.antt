use Rattle.std.proofs.Common.{◌≡◌, ap, ◌∙◌}
use Rattle.std.proofs.lemmas.Result.{IfOk-weaker}
use Rattle.sn_rows.specs.declared.device_rows.OwnerRow.{OwnerRow}
use Rattle.sn_client.specs.Calls.{device_rows}
use Rattle.sn_device.specs.Runs.{change_to}
use Rattle.sn_device.specs.States.{HasOwner}
use Rattle.sn_device.proofs.Facts.{one_owner}
use Rattle.sn_client.proofs.device.Device.change_request.Goals as goal

pub returns : goal.returns
returns g c =
    IfOk-weaker c.change_of.result (λ r. r ≡ change_to c.in-Some.account.now c.args.present.now c.args.set.now)
    (λ r. (owner : OwnerRow) → HasOwner (device_rows c.args.self.now) owner → r ≡ change_to owner c.args.present.now c.args.set.now)
    (λ r is owner has. is ∙ ap (λ (o : OwnerRow). change_to o c.args.present.now c.args.set.now)
    (one_owner (device_rows c.args.self.now) c.in-Some.account.now owner c.in-Some.ensures.some has))
    c.change_of.ensures
