use Rattle.std.proofs.Common.{refl}
use Rattle.sn_client.specs.Calls.{IsOpen, device_disk}
use Rattle.sn_device.specs.Runs.{passwd, nothing}
use Rattle.sn_table.specs.Kept.{kept_of}
use Rattle.sn_events.specs.declared.steady.Holding.TheVariants as held
use Rattle.sn_events.proofs.Came.{has_rows, ok_on, over_came}
use Rattle.sn_events.proofs.ends.Ends.passwd.Goals as goal

pub returns : goal.returns
returns c = record {
  came = λ secret w s differ stands only readable.
      let ready = c.in_ok-alloc.ensures in
      let has = ready.rows (w.devices c.args.name.now) (stands.devices c.args.name.now) in
      ok_on _ _ c.put_back.result
      (λ outcome back. over_came held.Device IsOpen _ (λ given. nothing) has_rows secret w s c.args.name.now (passwd c.args.password.now c.args.cost)
      c.args.words.now c.passwd-called.new.words c.args.setting c.args.self outcome _ c.passwd-called.new.link c.passwd-called.result has.batches has.rows_are has.place_is device_disk _ ready.from c.passwd-called.ensures.grows (λ x place. refl) stands ready back
      c.calls_come.ensures differ only readable _ ready.steady.least (c.passwd-called.ensures.runs (kept_of has.batches) has.open_is) c.passwd-called.ensures.link_fault)
      c.put_back.ensures;
}
