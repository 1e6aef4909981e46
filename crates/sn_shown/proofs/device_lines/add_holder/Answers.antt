use Rattle.std.proofs.Common.{◌∙◌}
use Rattle.sn_row_map.specs.RowMaps.{row_in}
use Rattle.sn_shown.proofs.DeviceLines.{closed_shown, drafts_shown, with_account}
use Rattle.sn_shown.proofs.device_lines.add_holder.Goals as goal

pub returns : goal.returns
returns c = λ s closed shows is are are_closed.
    let rows = row_in c.args.rows.now in
    let labels = c.args.labels.now in
    let name = c.args.name.now in
    let holding = c.args.holding.now in
    with_account rows labels s name holding shows is
    c.add_closed.result closed c.args.lines.now c.push.new.self c.add_drafts.new.lines c.add_closed.new.lines c.in_ok-line.line c.as_str.result.now
    c.as_slice.result.now
    c.in_ok-line.ensures c.as_str.ensures (c.as_slice.ensures.value ∙ c.in_ok-held.ensures) c.in_ok-push.ensures.ok
    (c.in_ok-add_drafts.ensures s (drafts_shown rows labels s name holding shows is))
    (c.add_closed.ensures (closed name) (closed_shown rows labels s name holding shows is c.args.numbers.now (closed name) are are_closed))
