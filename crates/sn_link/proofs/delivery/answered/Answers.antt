use Rattle.std.proofs.Common.{arith, ◌<◌, ◌^◌, List, ℕ, None, refl, sym, subst, length}
use Rattle.sn_disk.specs.MemDisk.{disk_told}
use Rattle.sn_disk.specs.Steps.{Leaves}
use Rattle.sn_disk.specs.declared.memory.MemDisk.{MemDisk}
use Rattle.sn_server.specs.Sessions.{SessionEnds}
use Rattle.sn_server.specs.Steps.{World, world}
use Rattle.sn_server.specs.Stores.{IsOpen, MayHave}
use Rattle.sn_server.specs.declared.serving.Session.TheVariants.{Over}
use Rattle.sn_link.specs.Clocks.{clock_told}
use Rattle.sn_link.specs.Deliveries.{Delivers, failed, given_by, serves}
use Rattle.sn_link.proofs.Delivering.{begins, lost_from, over}
use Rattle.sn_link.proofs.delivery.answered.Goals as goal

pub returns-in-Over-clause-delivers : goal.returns-in-Over-clause-delivers
returns-in-Over-clause-delivers c = λ kept stands.
    let (place, left, ends) = c.in-Over.ensures.ends kept stands in
    let reads = c.new-source.result.plan.faults in
    let writes = c.new-sink.result.plan.faults in
    let may_have = MayHave (Unit {0}) (λ (d : MemDisk). Leaves (disk_told d)) in
    let start = begins c.args.input.items c.args.now reads writes _ _ _ c.new-source.ensures.left c.new-sink.ensures.held c.at-clock.ensures in
    let after = world left _ (clock_told c.session.new.clock) place c.session.new.source.plan.faults c.session.new.sink.plan.faults in
    let from_start = subst (λ (w : World). SessionEnds IsOpen may_have kept 1 w after (Over c.in-Over.server c.in-Over.ended c.in-Over.field-2)) start ends in
    let (next, opens, delivers) = over IsOpen may_have kept c.args.now c.args.input.items reads writes left c.session.new.sink.bytes.items c.session.new.clock.moment c.session.new.clock.given place
    c.session.new.source.plan.faults c.session.new.sink.plan.faults c.in-Over.server c.in-Over.ended c.in-Over.field-2 c.in-Over.ensures.within from_start in (
      serves next,
      opens,
      (
        given_by c.in-Over.ended c.bytes.result.now,
        subst (λ (l : List ℕ). Delivers c.args.now kept c.args.input.items (given_by c.in-Over.ended l) (serves next)) (sym c.bytes.ensures) delivers,
        c.answer_of.ensures,
      ),
    )

pub returns-clause-delivers : goal.returns-clause-delivers
returns-clause-delivers c = λ kept stands.
    let (place, left, ends) = c.in-Broken.ensures.ends kept stands in
    let reads = c.new-source.result.plan.faults in
    let writes = c.new-sink.result.plan.faults in
    let may_have = MayHave (Unit {0}) (λ (d : MemDisk). Leaves (disk_told d)) in
    let start = begins c.args.input.items c.args.now reads writes _ _ _ c.new-source.ensures.left c.new-sink.ensures.held c.at-clock.ensures in
    let small : length c.args.input.items < 2 ^ 63 = omega (arith, c.args.input.small, c.args.input.ok.0) in
    let (had, made, either, fails) = lost_from IsOpen may_have kept c.args.now c.args.input.items reads writes left c.session.new.sink.bytes.items c.session.new.clock.moment c.session.new.clock.given place
    c.session.new.source.plan.faults c.session.new.sink.plan.faults c.in-Broken.disk _ start small ends in
    (failed had made, either, (None, fails, refl))
