use Rattle.std.proofs.Common.{ap, ◌∙◌}
use Rattle.sn_rows.specs.declared.device_rows.OwnerRow.{OwnerRow}
use Rattle.sn_sync.specs.declared.request.Request.TheVariants as request
use Rattle.sn_client.specs.Calls.{device_rows}
use Rattle.sn_device.specs.States.{Bytes}
use Rattle.sn_device.proofs.Facts.{one_owner}
use Rattle.sn_client.proofs.device.Device.params_request.Goals as goal

pub returns : goal.returns
returns g c = λ owner has.
    ap (λ (identifier : Bytes). request.Params identifier)
    (c.in_ok-identifier.ensures ∙ ap (λ (o : OwnerRow). o.identifier)
    (one_owner (device_rows c.args.self.now) c.in-Some.account.now owner c.in-Some.ensures.some has))
