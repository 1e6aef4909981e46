use Rattle.std.specs.declared.option.Option.{Option}
use Rattle.std.specs.Prelude.{List, ℕ}
use Rattle.std.proofs.Common.{ap, ◌∙◌, subst}
use Rattle.std.proofs.KnownBytes.{prepend_known-nil}
use Rattle.sn_http.specs.Heads.{Carried, unread}
use Rattle.sn_server.specs.Sessions.{SessionEnds}
use Rattle.sn_server.specs.Steps.{World, world}
use Rattle.sn_server.specs.Stores.{IsOpen, MayHave}
use Rattle.sn_server.proofs.Gaining.{session_gains}
use Rattle.sn_server.proofs.server.Server.session.Goals as goal

pub returns-clause-ends : goal.returns-clause-ends
returns-clause-ends g c = λ kept stands.
    let left = g.I.Source.left c.args.source.now in
    let held = g.O.Sink.held c.args.sink.now in
    let given = g.C.Clock.given c.args.clock.now in
    let reads = g.I.Source.fault_count c.args.source.now in
    let writes = g.O.Sink.fault_count c.args.sink.now in
    let now = world (unread c.serve_all.new.carry (g.I.Source.left c.serve_all.new.source)) (g.O.Sink.held c.serve_all.new.sink) (g.C.Clock.given c.serve_all.new.clock) c.serve_all.new.carry.place (g.I.Source.fault_count c.serve_all.new.source) (g.O.Sink.fault_count c.serve_all.new.sink) in (
      c.serve_all.new.carry.place,
      unread c.serve_all.new.carry (g.I.Source.left c.serve_all.new.source),
      subst (λ (w : World). SessionEnds IsOpen (MayHave g.D.Disk.told g.D.Disk.may_leave) kept c.args.budget w now c.serve_all.result)
          (ap (λ (k : Carried). world (unread k left) held given k.place reads writes) c.new-carry.ensures
          ∙ ap (λ (o : Option (List ℕ)). world o held given 0 reads writes) (prepend_known-nil left))
          (c.serve_all.ensures.ends kept stands),
    )

pub returns-clause-gains : goal.returns-clause-gains
returns-clause-gains g c = λ kept stands.
    session_gains IsOpen (MayHave g.D.Disk.told g.D.Disk.may_leave) kept c.args.budget _ _ c.serve_all.result (c.serve_all.ensures.ends kept stands)
