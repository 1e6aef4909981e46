use Rattle.std.proofs.Common.{inr, subst}
use Rattle.sn_row_map.specs.RowMaps.{row_in}
use Rattle.sn_row_map.specs.declared.row_map.RowMap.{RowMap}
use Rattle.sn_client.specs.Calls.{device_rows}
use Rattle.sn_device.specs.Listing.{AreListed}
use Rattle.sn_device.specs.Runs.{lines, list}
use Rattle.sn_client.proofs.ListLemmas.{list_told, list_unowned}
use Rattle.sn_client.proofs.TellLemmas.{tells_exit}
use Rattle.sn_client.proofs.device.Device.list.Goals as goal

pub returns-in_err-sets : goal.returns-in_err-sets
returns-in_err-sets g c =
    tells_exit c.args.self.now.least_cost list (device_rows c.args.self.now) (λ found. lines found) c.from_residual.result
    c.in_err-sets.field-0.0 c.from_residual.ensures.1 (list_unowned (device_rows c.args.self.now) c.in_err-sets.field-0.0 c.in_err-sets.ensures.err)

pub returns : goal.returns
returns g c = λ words. inr
    (list_told (device_rows c.args.self.now) c.in_ok-sets.ensures.ok.0 c.in_ok-sets.sets c.in_ok-found.found c.in_ok-sets.ensures.ok.1
    (subst (λ (m : RowMap). AreListed (row_in m) c.in_ok-sets.sets c.in_ok-found.found) c.rows.ensures.rows c.in_ok-found.ensures) words)
