use Rattle.std.proofs.Common.{ℕ, sym, ◌∙◌, subst}
use Rattle.std.specs.Io.KnownBytes.{Appends}
use Rattle.sn_serve.specs.Listening.{listening_line, outside, ListenEnds}
use Rattle.sn_serve.specs.Visits.{stand}
use Rattle.sn_serve.specs.declared.ends.Served.{Served}
use Rattle.sn_serve.proofs.Stages.{behind_none, hosted}
use Rattle.sn_serve.proofs.listening.listen.Goals as goal

pub returns-in-Ok-tell_number-clause-ends : goal.returns-in-Ok-tell_number-clause-ends
returns-in-Ok-tell_number-clause-ends g c =
    let old = outside c.args.port.now c.args.out.now c.args.clock.now in
    let new = outside c.host-disk.new.port c.tell_number.new.out c.host-disk.new.clock in
    let ends = ListenEnds g.D.Disk g.P.Port.goes g.P.Port.bound g.O.Sink.held g.C.Clock.given c.args.number c.args.requests old new c.args.server c.host-disk.result.0 in
    subst (λ (served : Served). ends served) (sym c.served_so.ensures)
    (hosted g.D.Disk g.P.Port.goes g.P.Port.bound g.O.Sink.held g.C.Clock.given c.args.number c.args.requests old new c.args.server c.host-disk.result.0 c.host-disk.result.1
    (record {
      binds = λ some. c.host-disk.ensures.bound ∙ c.in-Ok.ensures.bound some;
      told = subst (λ (n : ℕ). Appends (g.O.Sink.held c.args.out.now) (g.O.Sink.held c.tell_number.new.out) (listening_line n))
          (c.number.ensures ∙ sym c.host-disk.ensures.bound) c.in-Ok-tell_number.ensures.told;
      ends = behind_none g.P.Port.goes g.met.P.Port.going c.args.port.now c.bind.new.self c.host-disk.new.port c.in-Ok.ensures.goes
          (stand c.args.server (g.C.Clock.given c.args.clock.now) c.args.requests) (g.C.Clock.given c.host-disk.new.clock) c.host-disk.result.0 c.host-disk.result.1
          c.host-disk.ensures.ends;
    }))
