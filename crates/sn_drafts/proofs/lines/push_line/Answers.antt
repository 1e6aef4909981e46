use Rattle.std.proofs.Common.{subst}
use Rattle.sn_rows.specs.declared.device_rows.LocalItem.{LocalItem}
use Rattle.sn_device.specs.Listing.{IsListed}
use Rattle.sn_drafts.proofs.LineLemmas.{adds_line}
use Rattle.sn_drafts.proofs.lines.push_line.Goals as goal

pub returns : goal.returns
returns c =
    adds_line c.args.sets.now c.args.value.now c.args.lines.now c.push.new.self c.in-Local.item c.in_ok-line.line c.push.result c.in-Local.is
    (subst (λ (local : LocalItem). IsListed c.args.sets.now local c.in_ok-line.line) c.get.ensures c.in_ok-line.ensures) c.push.ensures.ok
