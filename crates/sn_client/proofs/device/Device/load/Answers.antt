use Rattle.std.specs.Prelude.{◌≡◌, ◌⊎◌, ◌++◌, ◌∷◌, [], ◌≤◌, ◌+◌, ◌*◌}
use Rattle.std.proofs.Common.{sym, ap, subst, ◌∙◌}
use Rattle.std.proofs.Math.Path.{fun_ext}
use Rattle.sn_disk.specs.Disk.{LeavesOnly}
use Rattle.sn_journal.specs.Image.{SameBatches, missing_writes}
use Rattle.sn_journal.specs.declared.owner.Owner.TheVariants.{Device as DeviceOwner}
use Rattle.sn_row_map.specs.RowMaps.{row_in}
use Rattle.sn_table.specs.Batches.{IsAllOrNothing, IsStore}
use Rattle.sn_table.specs.Tables.{table_rows}
use Rattle.sn_client.specs.Calls.{device_disk}
use Rattle.sn_client.specs.Loads.{given_disk}
use Rattle.sn_client.proofs.LoadLemmas.{counted, given_same, loads, on_ok, open_errors, opens, opens_either}
use Rattle.sn_client.proofs.device.Device.load.Goals as goal

pub returns-in-Ok-clause-loaded : goal.returns-in-Ok-clause-loaded
returns-in-Ok-clause-loaded g c = λ told.
    loads (g.D.Disk.seen c.args.disk) c.in-Ok.table c.opened.result (c.opened.ensures.opens, c.opened.ensures.still) (c.in-Ok.ensures.loaded told)

pub returns-in-Ok-clause-any_moment : goal.returns-in-Ok-clause-any_moment
returns-in-Ok-clause-any_moment g c = λ told.
    let same = given_same c.in-Ok.table c.opened.result (c.opened.ensures.opens, c.opened.ensures.still) in
    subst (λ (d : _). LeavesOnly g.D.Disk.moment g.D.Disk.left_since c.args.disk d (λ f. g.D.Disk.may_leave c.args.disk f ⊎ SameBatches DeviceOwner (g.D.Disk.seen c.args.disk) f)) (sym same)
    (c.in-Ok.ensures.any_moment told)

pub returns-in-Ok-clause-same : goal.returns-in-Ok-clause-same
returns-in-Ok-clause-same g c = λ told batches each.
    let same = given_same c.in-Ok.table c.opened.result (c.opened.ensures.opens, c.opened.ensures.still) in
    let found = c.in-Ok.ensures.same told batches each in (
      opens c.in-Ok.table batches c.opened.result (c.opened.ensures.opens, c.opened.ensures.still) found.0,
      subst (λ (d : _). LeavesOnly g.D.Disk.moment g.D.Disk.left_since c.args.disk d (λ f. IsStore DeviceOwner f batches)) (sym same) found.1,
    )

pub returns-in-Ok-clause-either : goal.returns-in-Ok-clause-either
returns-in-Ok-clause-either g c = λ told batches changes each.
    let same = given_same c.in-Ok.table c.opened.result (c.opened.ensures.opens, c.opened.ensures.still) in
    let found = c.in-Ok.ensures.either told batches changes each in (
      opens_either c.in-Ok.table batches (batches ++ changes ∷ []) c.opened.result (c.opened.ensures.opens, c.opened.ensures.still) found.0,
      subst (λ (d : _). LeavesOnly g.D.Disk.moment g.D.Disk.left_since c.args.disk d (IsAllOrNothing DeviceOwner batches changes)) (sym same) found.1,
    )

pub returns-in-Ok-clause-calls : goal.returns-in-Ok-clause-calls
returns-in-Ok-clause-calls g c = λ told.
    let same = given_same c.in-Ok.table c.opened.result (c.opened.ensures.opens, c.opened.ensures.still) in
    counted (1 + 2 * missing_writes (g.D.Disk.seen c.args.disk)) (g.D.Disk.moment c.args.disk) (g.D.Disk.moment (given_disk device_disk c.opened.result)) c.opened.result
    (ap g.D.Disk.moment same ∙ (c.in-Ok.ensures.calls told).done)

pub returns-in-Ok-clause-refused : goal.returns-in-Ok-clause-refused
returns-in-Ok-clause-refused g c =
    open_errors g.D.Disk.fault_count g.D.Disk.told (g.D.Disk.seen c.args.disk) (row_in (table_rows c.in-Ok.table)) (g.D.Disk.fault_count c.args.disk) c.opened.result
    (λ told. let found = c.in-Ok.ensures.loaded told in (found.batches, found.store, fun_ext found.has.rows_are)) c.opened.ensures.refused

pub returns-in-Ok-clause-grows : goal.returns-in-Ok-clause-grows
returns-in-Ok-clause-grows g c =
    let same = given_same c.in-Ok.table c.opened.result (c.opened.ensures.opens, c.opened.ensures.still) in
    subst (λ (d : _). g.D.Disk.grows c.args.disk d) (sym same) c.in-Ok.ensures.grows

pub returns-in-Ok-clause-later : goal.returns-in-Ok-clause-later
returns-in-Ok-clause-later g c =
    let same = given_same c.in-Ok.table c.opened.result (c.opened.ensures.opens, c.opened.ensures.still) in
    subst (λ (d : _). g.D.Disk.fault_count c.args.disk ≤ g.D.Disk.fault_count d) (sym same) c.in-Ok.ensures.later

pub returns-in-Ok-clause-quiet : goal.returns-in-Ok-clause-quiet
returns-in-Ok-clause-quiet g c =
    let same = given_same c.in-Ok.table c.opened.result (c.opened.ensures.opens, c.opened.ensures.still) in
    on_ok (g.D.Disk.fault_count (given_disk device_disk c.opened.result) ≡ g.D.Disk.fault_count c.args.disk) c.opened.result (ap g.D.Disk.fault_count same ∙ c.in-Ok.ensures.quiet)
