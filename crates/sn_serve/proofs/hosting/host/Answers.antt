use Rattle.std.proofs.Common.{◌∷◌, ◌++◌, [], refl, ◌∙◌, ap, arith}
use Rattle.sn_server.specs.Stores.{server_disk}
use Rattle.sn_serve.specs.Visits.{stand}
use Rattle.sn_serve.specs.Hosting.{IsWanting, IsBroken}
use Rattle.sn_serve.proofs.Visiting.{visits_more, counted_more, seen_more, seen_none, ends_in}
use Rattle.sn_serve.proofs.hosting.host.Goals as goal

pub connections-init : goal.connections-init
connections-init g c = record {
  visits = [];
  are = refl;
  counted = omega arith;
  seen = g.met.P.Port.going.none c.args.port.now;
  bound = refl;
  faults = omega arith;
  grows = g.met.D.Disk.growing.same (server_disk c.args.server);
  sound = c.requires.sound;
  later = omega arith;
}

pub connections-preserved : goal.connections-preserved
connections-preserved g c =
    let kept = c.connections.invariant in
    let now = stand c.connections.server (g.C.Clock.given c.connections.clock) c.connections.left in
    let next = stand c.in-Served.next (g.C.Clock.given c.serve_one.new.clock) c.in-Served.rest in
    let from = stand c.args.server (g.C.Clock.given c.args.clock.now) c.args.requests in
    let (v, is, left, seen) = c.in-Served.ensures.ends in
    record {
      visits = kept.visits ++ v ∷ [];
      are = visits_more from kept.visits now next v kept.are is left;
      counted = omega (arith, counted_more kept.visits v, kept.counted, left.rest, is.budget);
      seen = seen_more g.P.Port.goes g.met.P.Port.going c.args.port.now c.connections.port c.serve_one.new.port kept.visits v kept.seen seen;
      bound = c.in-Served.ensures.bound ∙ kept.bound;
      faults = omega (arith, kept.faults, c.in-Served.ensures.later);
      grows = g.met.D.Disk.growing.on (server_disk c.args.server) (server_disk c.connections.server) (server_disk c.in-Served.next) kept.grows c.in-Served.ensures.grows;
      sound = c.in-Served.ensures.sound;
      later = omega (arith, kept.later, c.in-Served.ensures.disk);
    }

pub returns-in-NoConnection-clause-ends : goal.returns-in-NoConnection-clause-ends
returns-in-NoConnection-clause-ends g c =
    let kept = c.connections.invariant in
    let (same, clock, none) = c.in-NoConnection.ensures.ends in (
      stand c.connections.server (g.C.Clock.given c.connections.clock) c.connections.left,
      record {
        visits = kept.visits;
        are = kept.are;
        counted = kept.counted;
        seen = seen_none g.P.Port.goes g.met.P.Port.going c.args.port.now c.connections.port c.serve_one.new.port kept.visits kept.seen none;
        clock = clock;
        back = c.close.ensures ∙ ap server_disk same;
      },
      c.connections-test.true,
    )

pub returns-in-Wanting-clause-ends : goal.returns-in-Wanting-clause-ends
returns-in-Wanting-clause-ends g c =
    let kept = c.connections.invariant in
    ends_in g.P.Port.goes g.met.P.Port.going c.args.port.now c.connections.port c.serve_one.new.port
    (stand c.args.server (g.C.Clock.given c.args.clock.now) c.args.requests) (stand c.connections.server (g.C.Clock.given c.connections.clock) c.connections.left)
    (g.C.Clock.given c.serve_one.new.clock) IsWanting c.in-Wanting.disk kept.visits kept.are kept.seen c.in-Wanting.ensures.ends

pub returns-in-Lost-clause-ends : goal.returns-in-Lost-clause-ends
returns-in-Lost-clause-ends g c =
    let kept = c.connections.invariant in
    ends_in g.P.Port.goes g.met.P.Port.going c.args.port.now c.connections.port c.serve_one.new.port
    (stand c.args.server (g.C.Clock.given c.args.clock.now) c.args.requests) (stand c.connections.server (g.C.Clock.given c.connections.clock) c.connections.left)
    (g.C.Clock.given c.serve_one.new.clock) IsBroken c.in-Lost.disk kept.visits kept.are kept.seen c.in-Lost.ensures.ends

pub returns-clause-ends : goal.returns-clause-ends
returns-clause-ends g c =
    let kept = c.connections.invariant in (
      stand c.connections.server (g.C.Clock.given c.connections.clock) c.connections.left,
      record { visits = kept.visits; are = kept.are; counted = kept.counted; seen = kept.seen; clock = refl; back = c.close-2.ensures },
      omega (arith, c.connections-test.false),
    )
