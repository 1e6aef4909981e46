use Rattle.std.proofs.Common.{sym, ◌∙◌, ap, rules}
use Rattle.sn_server.specs.Outcomes.{session_disk}
use Rattle.sn_server.specs.Stores.{server_disk}
use Rattle.sn_server.specs.declared.serving.Session.TheVariants.{Over}
use Rattle.sn_serve.specs.Hosting.{IsWanting, IsBroken}
use Rattle.sn_serve.specs.Visits.{Moment, moment}
use Rattle.sn_serve.proofs.Visiting.{breaks, is_visit, leaves, visiting}
use Rattle.sn_serve.proofs.hosting.serve_one.Goals as goal

pub returns-in-Memory-clause-ends : goal.returns-in-Memory-clause-ends
returns-in-Memory-clause-ends g c =
    let before : Moment = moment (g.P.In.Source.left c.in-Ok.source) (g.P.Out.Sink.held c.in-Ok.sink) (g.C.Clock.given c.args.clock.now)
    (g.P.In.Source.fault_count c.in-Ok.source) (g.P.Out.Sink.fault_count c.in-Ok.sink) in
    let after : Moment = moment (g.P.In.Source.left c.session-session.new.source) (g.P.Out.Sink.held c.session-session.new.sink) (g.C.Clock.given c.session-session.new.clock)
    (g.P.In.Source.fault_count c.session-session.new.source) (g.P.Out.Sink.fault_count c.session-session.new.sink) in
    breaks (g.P.Port.goes c.args.port.now c.end.new.self) IsWanting c.args.server c.args.left before after c.session-session.result c.close.result
    c.requires.due c.session-session.ensures.ends (c.in-Over.next, c.in-Over.count, c.in-Over.is ∙ ap (λ how. Over c.in-Over.next how c.in-Over.count) c.in-Memory.is)
    (g.met.P.Port.going.more _ _ _ _ _ c.in-Ok.ensures.accepted c.end.ensures.ended)
    (c.close.ensures ∙ sym (ap (session_disk server_disk) c.in-Over.is))

pub returns-in_default-ended : goal.returns-in_default-ended
returns-in_default-ended g c =
    let before : Moment = moment (g.P.In.Source.left c.in-Ok.source) (g.P.Out.Sink.held c.in-Ok.sink) (g.C.Clock.given c.args.clock.now)
    (g.P.In.Source.fault_count c.in-Ok.source) (g.P.Out.Sink.fault_count c.in-Ok.sink) in
    let after : Moment = moment (g.P.In.Source.left c.session-session.new.source) (g.P.Out.Sink.held c.session-session.new.sink) (g.C.Clock.given c.session-session.new.clock)
    (g.P.In.Source.fault_count c.session-session.new.source) (g.P.Out.Sink.fault_count c.session-session.new.sink) in
    record {
      ends = (
        visiting c.args.server c.args.left before after c.session-session.result,
        is_visit c.args.server c.args.left before after c.session-session.result c.requires.due c.session-session.ensures.ends,
        leaves c.args.server c.in-Over.next c.args.left c.in-Over.count c.max.result before after c.session-session.result c.in-Over.ended c.requires.due
            c.in-Over.is c.in_default-ended.not-Memory c.in-Over.ensures.within c.max.ensures,
        g.met.P.Port.going.more _ _ _ _ _ c.in-Ok.ensures.accepted c.end.ensures.ended,
      );
      port = λ none. absurd none;
      later = search rules;
      lost = tt;
      bound = search rules;
      grows = search rules;
      disk = search rules;
      sound = c.in-Over.ensures.sound;
    }

pub returns-in-Broken-clause-ends : goal.returns-in-Broken-clause-ends
returns-in-Broken-clause-ends g c =
    let before : Moment = moment (g.P.In.Source.left c.in-Ok.source) (g.P.Out.Sink.held c.in-Ok.sink) (g.C.Clock.given c.args.clock.now)
    (g.P.In.Source.fault_count c.in-Ok.source) (g.P.Out.Sink.fault_count c.in-Ok.sink) in
    let after : Moment = moment (g.P.In.Source.left c.session-session.new.source) (g.P.Out.Sink.held c.session-session.new.sink) (g.C.Clock.given c.session-session.new.clock)
    (g.P.In.Source.fault_count c.session-session.new.source) (g.P.Out.Sink.fault_count c.session-session.new.sink) in
    breaks (g.P.Port.goes c.args.port.now c.end.new.self) IsBroken c.args.server c.args.left before after c.session-session.result c.in-Broken.disk
    c.requires.due c.session-session.ensures.ends (c.in-Broken.disk, c.in-Broken.is)
    (g.met.P.Port.going.more _ _ _ _ _ c.in-Ok.ensures.accepted c.end.ensures.ended)
    (sym (ap (session_disk server_disk) c.in-Broken.is))
