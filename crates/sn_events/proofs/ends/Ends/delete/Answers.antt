use Rattle.std.proofs.Common.{refl}
use Rattle.sn_client.specs.Calls.{IsOpen, device_disk}
use Rattle.sn_device.specs.Runs.{delete, nothing}
use Rattle.sn_table.specs.Kept.{kept_of}
use Rattle.sn_events.specs.declared.steady.Holding.TheVariants as held
use Rattle.sn_events.proofs.Came.{has_rows, ok_on, quiet_came}
use Rattle.sn_events.proofs.ends.Ends.delete.Goals as goal

pub returns : goal.returns
returns c = record {
  came = λ secret w s words differ stands.
      let ready = c.in_ok-alloc.ensures in
      let has = ready.rows (w.devices c.args.name.now) (stands.devices c.args.name.now) in
      ok_on _ _ c.put_back.result
      (λ outcome back. quiet_came held.Device IsOpen _ (λ given. nothing) has_rows secret w s c.args.name.now (delete c.args.uuid)
      words words c.args.setting c.args.self outcome _ _ c.delete-called.result has.batches has.rows_are has.place_is device_disk _ ready.from c.delete-called.ensures.grows (λ x place. refl) stands ready back
      c.quiet_come.ensures differ tt _ ready.steady.least (c.delete-called.ensures.runs words (kept_of has.batches) has.open_is) refl)
      c.put_back.ensures;
}
