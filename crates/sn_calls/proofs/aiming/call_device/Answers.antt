use Rattle.sn_calls.specs.Ends.{outside}
use Rattle.sn_calls.specs.Parts.{call_of, server_of}
use Rattle.sn_calls.proofs.Stages.{made, makes_behind}
use Rattle.sn_calls.proofs.aiming.call_device.Goals as goal

pub returns-in_default-clause-ends : goal.returns-in_default-clause-ends
returns-in_default-clause-ends g c =
    made g.D.Disk g.L.Link.asks g.L.Link.aimed g.R.Seeds.given (call_of c.args.call.now) (server_of c.args.call.now) c.args.device.least_cost
    (outside c.args.link.now c.args.seeds.now) (outside c.make.new.link c.make.new.seeds) c.args.device c.requires.opens c.make.result.0 c.make.result.1
    c.make.ensures.makes

pub returns-in-Ok-clause-ends : goal.returns-in-Ok-clause-ends
returns-in-Ok-clause-ends g c =
    made g.D.Disk g.L.Link.asks g.L.Link.aimed g.R.Seeds.given (call_of c.args.call.now) (server_of c.args.call.now) c.args.device.least_cost
    (outside c.args.link.now c.args.seeds.now) (outside c.make-in-Ok.new.link c.make-in-Ok.new.seeds) c.args.device c.requires.opens c.make-in-Ok.result.0 c.make-in-Ok.result.1
    (λ kept is.
    makes_behind g.D.Disk g.L.Link.asks g.L.Link.aimed g.R.Seeds.given (call_of c.args.call.now) c.args.device.least_cost c.make-in-Ok.result.0 c.make-in-Ok.result.1
    g.met.L.Link.asking c.args.link.now c.aim.new.self c.make-in-Ok.new.link c.args.seeds.now c.make-in-Ok.new.seeds (server_of c.args.call.now) c.in-Some.server.now kept
    c.in-Some.ensures.some c.aim.ensures.asks (c.make-in-Ok.ensures.makes kept is))
