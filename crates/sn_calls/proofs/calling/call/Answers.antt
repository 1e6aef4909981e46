use Rattle.std.proofs.Common.{◌∙◌}
use Rattle.sn_calls.specs.Ends.{handed}
use Rattle.sn_calls.specs.Parts.{call_of, server_of}
use Rattle.sn_calls.proofs.Stages.{ended}
use Rattle.sn_calls.proofs.calling.call.Goals as goal

pub returns-clause-ends : goal.returns-clause-ends
returns-clause-ends g c =
    let old = handed c.args.shelf.now c.args.link.now c.args.seeds.now in
    let new = handed c.give.new.self c.call_disk-disk.new.link c.call_disk-disk.new.seeds in
    let back = c.call_disk-disk.result.0 in
    let how = c.call_disk-disk.result.1 in
    ended g.S.D.Disk g.S.Shelf.told g.S.Shelf.slot g.S.Shelf.fault_count g.L.Link.asks g.L.Link.aimed g.R.Seeds.given
    c.args.store.now (call_of c.args.call.now) (server_of c.args.call.now) c.args.least_cost old new how
    (record {
      disk = c.in-Ok.disk;
      back = back;
      taken = c.in-Ok.ensures.taken;
      returned = c.give.ensures.given;
      others = λ told other unlike. c.give.ensures.others told other unlike ∙ c.in-Ok.ensures.others told other unlike;
      grows = c.call_disk-disk.ensures.grows;
      ends = c.call_disk-disk.ensures.ends;
      stands = c.call_disk-disk.ensures.stands;
      cause = c.call_disk-disk.ensures.disk;
    })
