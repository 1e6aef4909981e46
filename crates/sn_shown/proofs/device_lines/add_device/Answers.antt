use Rattle.std.proofs.Common.{◌≡◌, List, ◌++◌, Option, sym, ap, ◌∙◌, subst}
use Rattle.std.specs.Option.{option_copied}
use Rattle.std.specs.Prelude.{OnOk}
use Rattle.sn_laws.specs.Lookups.{Bytes}
use Rattle.sn_row_map.specs.declared.row_map.RowMap.{RowMap}
use Rattle.sn_rows.specs.declared.key.Key.TheVariants as key
use Rattle.sn_shows.specs.Devices.{ShowsDevice}
use Rattle.sn_shown.specs.Closed.{AreClosedTo}
use Rattle.sn_shown.specs.Held.{IsHoldingOf}
use Rattle.sn_shown.specs.Rows.{rows_in}
use Rattle.sn_shown.specs.declared.holding.Holding.{Holding}
use Rattle.sn_shown.proofs.DeviceLines.{one_line}
use Rattle.sn_shown.proofs.HoldingLemmas.{no_rows}
use Rattle.sn_shown.proofs.device_lines.add_device.Goals as goal

pub returns-in_default : goal.returns-in_default
returns-in_default g c = λ s closed regular are shows are_closed.
    let rows = rows_in (g.D.Devices.rows_of c.args.devices.now c.args.name.now) in
    let none = no_rows s c.args.name.now rows shows
    (ap (λ (o : Option RowMap). rows_in o key.Owner) (sym c.rows.ensures ∙ ap option_copied c.in_default.is)) in
    subst (λ (xs : List Bytes). OnOk c.add_none.result (c.add_none.new.lines ≡ c.args.lines.now ++ xs))
    (one_line rows c.args.labels.now s closed c.args.name.now shows are_closed none) c.add_none.ensures

pub returns-in_default-2 : goal.returns-in_default-2
returns-in_default-2 g c = λ s closed regular are shows are_closed.
    let rows = rows_in (g.D.Devices.rows_of c.args.devices.now c.args.name.now) in
    let shows_rows = subst (λ (o : Option RowMap). ShowsDevice (rows_in o) s c.args.name.now) (sym c.rows.ensures ∙ ap option_copied c.in-Some.is) shows in
    let none = subst (λ (h : Option Holding). IsHoldingOf s c.args.name.now h) c.in_default-2.is
    (c.in_ok-holding.ensures s c.args.name.now regular are shows_rows) in
    subst (λ (xs : List Bytes). OnOk c.add_none-in_default-2.result (c.add_none-in_default-2.new.lines ≡ c.args.lines.now ++ xs))
    (one_line rows c.args.labels.now s closed c.args.name.now shows are_closed none) c.add_none-in_default-2.ensures

pub returns : goal.returns
returns g c = λ s closed regular are shows are_closed.
    let shows_rows = subst (λ (o : Option RowMap). ShowsDevice (rows_in o) s c.args.name.now) (sym c.rows.ensures ∙ ap option_copied c.in-Some.is) shows in
    let closed_rows = subst (λ (o : Option RowMap). AreClosedTo (rows_in o) s c.args.name.now (closed c.args.name.now))
    (sym c.rows.ensures ∙ ap option_copied c.in-Some.is) are_closed in
    c.add_holder.ensures s closed shows_rows
    (subst (λ (h : Option Holding). IsHoldingOf s c.args.name.now h) c.in-Some-2.is (c.in_ok-holding.ensures s c.args.name.now regular are shows_rows))
    are closed_rows
