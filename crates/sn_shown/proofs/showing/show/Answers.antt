use Rattle.std.proofs.Common.{List, ◌++◌, ap, ◌∙◌}
use Rattle.std.specs.List.{flat_map}
use Rattle.sn_laws.specs.Lookups.{Bytes}
use Rattle.sn_report.specs.Showing.{account_lines, device_lines}
use Rattle.sn_row_map.specs.RowMaps.{row_in}
use Rattle.sn_shown.specs.Held.{IsServed}
use Rattle.sn_shown.proofs.ClosedRows.{closed_are, closed_in}
use Rattle.sn_shown.proofs.showing.show.Goals as goal

pub returns : goal.returns
returns g c = λ s shown.
    let rows_of = g.D.Devices.rows_of c.args.devices.now in
    let served : IsServed (row_in c.args.server.now) s = record { regular = shown.regular; accounts = shown.accounts } in
    let are = c.in_ok-numbers.ensures s served in
    let sets = c.in_ok-sets.ensures s shown.regular shown.each shown.held are in
    let closed = closed_in rows_of s shown.regular shown.each in
    let are_closed = closed_are rows_of s shown.regular shown.each in (
      closed,
      are_closed,
      c.in_ok-add_devices.ensures s closed shown.regular shown.each are are_closed
          ∙ ap (λ (xs : List Bytes). xs ++ flat_map (device_lines c.args.labels.now s closed) c.args.names.now)
          (c.in_ok-add_accounts.ensures s served are sets
          ∙ ap (λ (xs : List Bytes). xs ++ flat_map (account_lines c.args.labels.now) s.accounts) c.new-lines.ensures),
    )
