use Rattle.std.proofs.Common.{refl, sym, ◌∙◌, subst}
use Rattle.sn_server.specs.Loads.{kept_of, secret_of}
use Rattle.sn_serve.specs.Listening.{outside, DiskEnds}
use Rattle.sn_serve.specs.Standing.{DiskStands}
use Rattle.sn_serve.specs.declared.ends.Served.{Served}
use Rattle.sn_serve.proofs.Stages.{faulted, listened, unloaded}
use Rattle.sn_serve.proofs.Standing.{refused, served}
use Rattle.sn_serve.proofs.listening.serve_disk.Goals as goal

pub returns-in-Ok-clause-ends : goal.returns-in-Ok-clause-ends
returns-in-Ok-clause-ends g c =
    listened g.D.Disk g.P.Port.goes g.P.Port.bound g.O.Sink.held g.C.Clock.given c.args.number c.args.requests
    (outside c.args.port.now c.args.out.now c.args.clock.now) (outside c.listen.new.port c.listen.new.out c.listen.new.clock)
    c.args.disk c.args.words c.load.new.words c.in-Ok.server c.listen.result.0 c.listen.result.1
    (record {
      sound = c.in-Ok.ensures.sound;
      loaded = c.in-Ok.ensures.loaded;
      same = λ told batches each. (c.in-Ok.ensures.same told batches each).0;
      either = λ told batches changes each. (c.in-Ok.ensures.either told batches changes each).0;
    })
    c.listen.ensures.ends

pub returns-in-Ok-clause-stands : goal.returns-in-Ok-clause-stands
returns-in-Ok-clause-stands g c = λ told batches each.
    served g.P.Port.goes g.P.Port.bound g.O.Sink.held g.C.Clock.given c.args.number c.args.requests
    (outside c.args.port.now c.args.out.now c.args.clock.now) (outside c.listen.new.port c.listen.new.out c.listen.new.clock)
    c.args.words c.load.new.words c.in-Ok.server c.listen.result.0 batches c.listen.result.1 told (c.in-Ok.ensures.same told batches each).0 c.listen.ensures.ends

pub returns-in-Err-clause-ends : goal.returns-in-Err-clause-ends
returns-in-Err-clause-ends g c =
    let same = outside c.args.port.now c.args.out.now c.args.clock.now in
    subst (λ (served : Served). DiskEnds g.D.Disk g.P.Port.goes g.P.Port.bound g.O.Sink.held g.C.Clock.given c.args.number c.args.requests same same c.args.disk c.args.words c.in-Err.refusal.0 served)
    (sym c.served_of.ensures)
    (unloaded g.D.Disk g.P.Port.goes g.P.Port.bound g.O.Sink.held g.C.Clock.given c.args.number c.args.requests same same
    c.args.disk c.args.words c.in-Err.refusal.0 c.in-Err.refusal.1 c.in-Err.ensures.refused c.in-Err.ensures.stays refl)

pub returns-in-Err-clause-stands : goal.returns-in-Err-clause-stands
returns-in-Err-clause-stands g c = λ told batches each.
    subst (λ (served : Served). DiskStands g.D.Disk (kept_of batches) (secret_of c.args.words) c.in-Err.refusal.0 served) (sym c.served_of.ensures)
    (refused g.D.Disk told c.args.disk c.args.words c.in-Err.refusal.0 batches (g.met.D.Disk.seen_may_stay told c.args.disk) each
    (λ later f left. g.met.D.Disk.counts_now told _ _ f later left) c.in-Err.refusal.1 (c.in-Err.ensures.stays told))

pub returns-in-Err-clause-disk : goal.returns-in-Err-clause-disk
returns-in-Err-clause-disk g c = λ is.
    faulted g.D.Disk.told (g.D.Disk.seen c.args.disk) (g.D.Disk.fault_count c.args.disk) (g.D.Disk.fault_count c.in-Err.refusal.0) c.in-Err.refusal.1
    c.in-Err.ensures.refused (sym c.served_of.ensures ∙ is)
