use Rattle.std.proofs.Common.{◌∙◌, subst}
use Rattle.rand_chacha.specs.ChaCha.{ChaCha}
use Rattle.sn_server.specs.Loads.{kept_of, secret_of}
use Rattle.sn_serve.specs.Listening.{DiskEnds}
use Rattle.sn_serve.specs.Serving.{handed, outside_in}
use Rattle.sn_serve.specs.Standing.{DiskStands}
use Rattle.sn_serve.proofs.Stages.{ended}
use Rattle.sn_serve.proofs.serving.serve.Goals as goal

pub returns-clause-ends : goal.returns-clause-ends
returns-clause-ends g c =
    let old = handed c.args.shelf.now c.args.port.now c.args.out.now c.args.clock.now c.args.seeds.now in
    let new = handed c.give.new.self c.serve_disk-disk.new.port c.serve_disk-disk.new.out c.serve_disk-disk.new.clock c.draw.new.self in
    let back = c.serve_disk-disk.result.0 in
    let served = c.serve_disk-disk.result.1 in
    ended g.S.D.Disk g.S.Shelf.told g.S.Shelf.slot g.S.Shelf.fault_count g.P.Port.goes g.P.Port.bound g.O.Sink.held g.C.Clock.given g.R.Seeds.given
    c.args.store.now c.args.number c.args.requests old new served
    (record {
      disk = c.in-Ok.disk;
      back = back;
      seed = c.draw.result;
      taken = c.in-Ok.ensures.taken;
      returned = c.give.ensures.given;
      others = λ told other unlike. c.give.ensures.others told other unlike ∙ c.in-Ok.ensures.others told other unlike;
      grows = c.serve_disk-disk.ensures.grows;
      drew = c.draw.ensures;
      ends = subst (λ (w : ChaCha). DiskEnds g.S.D.Disk g.P.Port.goes g.P.Port.bound g.O.Sink.held g.C.Clock.given c.args.number c.args.requests (outside_in old) (outside_in new) c.in-Ok.disk w back served)
          c.from_seed-words.ensures c.serve_disk-disk.ensures.ends;
      stands = λ told batches each. subst (λ (w : ChaCha). DiskStands g.S.D.Disk (kept_of batches) (secret_of w) back served) c.from_seed-words.ensures
          (c.serve_disk-disk.ensures.stands told batches each);
      cause = c.serve_disk-disk.ensures.disk;
    })
