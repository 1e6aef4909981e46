use Rattle.std.proofs.Common.{ℕ, refl, sym, ◌∙◌, subst}
use Rattle.sn_table.specs.Kept.{kept_of}
use Rattle.sn_calls.specs.Ends.{DeviceEnds, DiskEnds, DiskStands, outside}
use Rattle.sn_calls.specs.Parts.{call_of, server_of}
use Rattle.sn_calls.specs.declared.ends.CallEnd.{CallEnd}
use Rattle.sn_calls.proofs.Stages.{faulted, loaded, unloaded}
use Rattle.sn_calls.proofs.Standing.{called, refused, stays_refused}
use Rattle.sn_calls.proofs.aiming.call_disk.Goals as goal

pub call_device-requires-clause-opens : goal.call_device-requires-clause-opens
call_device-requires-clause-opens g c = λ told. let found = c.in-Ok.ensures.loaded told in (kept_of found.0, found.2)

pub returns-in-Ok-clause-ends : goal.returns-in-Ok-clause-ends
returns-in-Ok-clause-ends g c =
    let old = outside c.args.link.now c.args.seeds.now in
    let new = outside c.call_device.new.link c.call_device.new.seeds in
    loaded g.D.Disk g.L.Link.asks g.L.Link.aimed g.R.Seeds.given (call_of c.args.call.now) (server_of c.args.call.now) c.args.least_cost old new
    c.args.disk c.call_device.result.0 c.in-Ok.device
    (record {
      sound = c.in-Ok.ensures.sound;
      loaded = c.in-Ok.ensures.loaded;
      same = λ told batches each. (c.in-Ok.ensures.same told batches each).0;
      either = λ told batches changes each. (c.in-Ok.ensures.either told batches changes each).0;
    })
    c.call_device.result.1
    (subst (λ (least : ℕ). DeviceEnds g.D.Disk g.L.Link.asks g.L.Link.aimed g.R.Seeds.given (call_of c.args.call.now) (server_of c.args.call.now) least old new
    c.in-Ok.device c.call_device.result.0 c.call_device.result.1) c.in-Ok.ensures.least c.call_device.ensures.ends)

pub returns-in-Ok-clause-stands : goal.returns-in-Ok-clause-stands
returns-in-Ok-clause-stands g c = λ told batches each.
    let old = outside c.args.link.now c.args.seeds.now in
    let new = outside c.call_device.new.link c.call_device.new.seeds in
    called g.D.Disk g.L.Link.asks g.L.Link.aimed g.R.Seeds.given (call_of c.args.call.now) (server_of c.args.call.now) c.args.least_cost old new
    told batches c.call_device.result.0 c.in-Ok.device (c.in-Ok.ensures.same told batches each).0 c.call_device.result.1
    (subst (λ (least : ℕ). DeviceEnds g.D.Disk g.L.Link.asks g.L.Link.aimed g.R.Seeds.given (call_of c.args.call.now) (server_of c.args.call.now) least old new
    c.in-Ok.device c.call_device.result.0 c.call_device.result.1) c.in-Ok.ensures.least c.call_device.ensures.ends)

pub returns-in-Err-clause-ends : goal.returns-in-Err-clause-ends
returns-in-Err-clause-ends g c =
    let same = outside c.args.link.now c.args.seeds.now in
    subst (λ (how : CallEnd). DiskEnds g.D.Disk g.L.Link.asks g.L.Link.aimed g.R.Seeds.given (call_of c.args.call.now) (server_of c.args.call.now) c.args.least_cost same same
    c.args.disk c.in-Err.refusal.0 how) (sym c.end_of.ensures)
    (unloaded g.D.Disk g.L.Link.asks g.L.Link.aimed g.R.Seeds.given (call_of c.args.call.now) (server_of c.args.call.now) c.args.least_cost same same
    c.args.disk c.in-Err.refusal.0 c.in-Err.refusal.1 c.in-Err.ensures.refused
    (λ told. stays_refused g.D.Disk.moment g.D.Disk.left_since c.args.disk c.in-Err.refusal.0 g.D.Disk.told (g.D.Disk.may_leave c.args.disk) (g.D.Disk.seen c.args.disk)
    (g.D.Disk.fault_count c.args.disk) (g.D.Disk.fault_count c.in-Err.refusal.0) c.in-Err.refusal.1 told c.in-Err.ensures.refused (c.in-Err.ensures.any_moment told)) refl)

pub returns-in-Err-clause-stands : goal.returns-in-Err-clause-stands
returns-in-Err-clause-stands g c = λ told batches each.
    let same = outside c.args.link.now c.args.seeds.now in
    subst (λ (how : CallEnd). DiskStands g.D.Disk g.L.Link.asks g.L.Link.aimed g.R.Seeds.given (call_of c.args.call.now) (server_of c.args.call.now) c.args.least_cost same same
    batches c.in-Err.refusal.0 how) (sym c.end_of.ensures)
    (refused g.D.Disk g.L.Link.asks g.L.Link.aimed g.R.Seeds.given (call_of c.args.call.now) (server_of c.args.call.now) c.args.least_cost same same
    told batches c.in-Err.refusal.0 c.args.disk (g.met.D.Disk.seen_may_stay told c.args.disk) each
    (λ later f left. g.met.D.Disk.counts_now told _ _ f later left) c.in-Err.refusal.1
    (stays_refused g.D.Disk.moment g.D.Disk.left_since c.args.disk c.in-Err.refusal.0 g.D.Disk.told (g.D.Disk.may_leave c.args.disk) (g.D.Disk.seen c.args.disk)
    (g.D.Disk.fault_count c.args.disk) (g.D.Disk.fault_count c.in-Err.refusal.0) c.in-Err.refusal.1 told c.in-Err.ensures.refused (c.in-Err.ensures.any_moment told)))

pub returns-in-Err-clause-disk : goal.returns-in-Err-clause-disk
returns-in-Err-clause-disk g c = λ is.
    faulted g.D.Disk.told (g.D.Disk.seen c.args.disk) (g.D.Disk.fault_count c.args.disk) (g.D.Disk.fault_count c.in-Err.refusal.0) c.in-Err.refusal.1
    c.in-Err.ensures.refused (sym c.end_of.ensures ∙ is)
