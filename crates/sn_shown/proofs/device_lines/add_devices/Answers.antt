use Rattle.std.proofs.Common.{◌≡◌, get_or, sym, subst}
use Rattle.sn_laws.specs.Lookups.{Bytes}
use Rattle.sn_report.specs.Showing.{device_lines}
use Rattle.sn_shown.proofs.DeviceLines.{names_all, names_step}
use Rattle.sn_shown.proofs.device_lines.add_devices.Goals as goal

pub names-preserved : goal.names-preserved
names-preserved g c = λ s closed regular each are are_closed.
    let name = c.as_str-name.result.now in
    let is = subst (λ (n : Bytes). n ≡ get_or c.args.names.now c.names.name-index n) (sym c.as_str-name.ensures) c.name-item.is in
    names_step (device_lines c.args.labels.now s closed) c.args.names.now c.names.name-index c.args.lines.now c.names.lines (c.names.invariant s closed regular each are are_closed)
    name c.add_device.new.lines c.names-test.true is
    (c.in_ok-add_device.ensures s closed regular are (each name) (are_closed name))

pub returns : goal.returns
returns g c = λ s closed regular each are are_closed.
    names_all (device_lines c.args.labels.now s closed) c.args.names.now c.names.name-index c.args.lines.now c.names.lines (c.names.invariant s closed regular each are are_closed)
    c.names-test.false
