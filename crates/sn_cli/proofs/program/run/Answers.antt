use Rattle.sn_command.specs.Words.{texts}
use Rattle.sn_serve.specs.Serving.{handed}
use Rattle.sn_cli.proofs.Accepting.{accepted, taken}
use Rattle.sn_cli.proofs.ToldLemmas.{link_before, silent_before, told_so}
use Rattle.sn_cli.proofs.program.run.Goals as goal

pub returns-clause-seal : goal.returns-clause-seal
returns-clause-seal g c =
    (told_so g.S.D.Disk g.S.Shelf.told g.S.Shelf.slot g.S.Shelf.fault_count g.P.Port.goes g.P.Port.bound g.O.Sink.held g.C.Clock.given g.R.Seeds.given
    (handed c.args.shelf.now c.args.port.now c.args.out.now c.args.clock.now c.args.seeds.now)
    (handed c.answer-status.new.shelf c.answer-status.new.port c.answer-status.new.out c.answer-status.new.clock c.answer-status.new.seeds)
    (texts c.args.words.now) _ _ _ _ _ c.answer-status.result c.tell.result _ _ _ _ _ _ _ _ c.tell.ensures.same c.answer-status.ensures.met).seal

pub returns-clause-open : goal.returns-clause-open
returns-clause-open g c =
    (told_so g.S.D.Disk g.S.Shelf.told g.S.Shelf.slot g.S.Shelf.fault_count g.P.Port.goes g.P.Port.bound g.O.Sink.held g.C.Clock.given g.R.Seeds.given
    (handed c.args.shelf.now c.args.port.now c.args.out.now c.args.clock.now c.args.seeds.now)
    (handed c.answer-status.new.shelf c.answer-status.new.port c.answer-status.new.out c.answer-status.new.clock c.answer-status.new.seeds)
    (texts c.args.words.now) _ _ _ _ _ c.answer-status.result c.tell.result _ _ _ _ _ _ _ _ c.tell.ensures.same c.answer-status.ensures.met).open_

pub returns-clause-show : goal.returns-clause-show
returns-clause-show g c =
    (told_so g.S.D.Disk g.S.Shelf.told g.S.Shelf.slot g.S.Shelf.fault_count g.P.Port.goes g.P.Port.bound g.O.Sink.held g.C.Clock.given g.R.Seeds.given
    (handed c.args.shelf.now c.args.port.now c.args.out.now c.args.clock.now c.args.seeds.now)
    (handed c.answer-status.new.shelf c.answer-status.new.port c.answer-status.new.out c.answer-status.new.clock c.answer-status.new.seeds)
    (texts c.args.words.now) _ _ _ _ _ c.answer-status.result c.tell.result _ _ _ _ _ _ _ _ c.tell.ensures.same c.answer-status.ensures.met).show

pub returns-clause-replay : goal.returns-clause-replay
returns-clause-replay g c =
    (told_so g.S.D.Disk g.S.Shelf.told g.S.Shelf.slot g.S.Shelf.fault_count g.P.Port.goes g.P.Port.bound g.O.Sink.held g.C.Clock.given g.R.Seeds.given
    (handed c.args.shelf.now c.args.port.now c.args.out.now c.args.clock.now c.args.seeds.now)
    (handed c.answer-status.new.shelf c.answer-status.new.port c.answer-status.new.out c.answer-status.new.clock c.answer-status.new.seeds)
    (texts c.args.words.now) _ _ _ _ _ c.answer-status.result c.tell.result _ _ _ _ _ _ _ _ c.tell.ensures.same c.answer-status.ensures.met).replay

pub returns-clause-generate : goal.returns-clause-generate
returns-clause-generate g c =
    (told_so g.S.D.Disk g.S.Shelf.told g.S.Shelf.slot g.S.Shelf.fault_count g.P.Port.goes g.P.Port.bound g.O.Sink.held g.C.Clock.given g.R.Seeds.given
    (handed c.args.shelf.now c.args.port.now c.args.out.now c.args.clock.now c.args.seeds.now)
    (handed c.answer-status.new.shelf c.answer-status.new.port c.answer-status.new.out c.answer-status.new.clock c.answer-status.new.seeds)
    (texts c.args.words.now) _ _ _ _ _ c.answer-status.result c.tell.result _ _ _ _ _ _ _ _ c.tell.ensures.same c.answer-status.ensures.met).generate

pub returns-clause-serve : goal.returns-clause-serve
returns-clause-serve g c =
    (told_so g.S.D.Disk g.S.Shelf.told g.S.Shelf.slot g.S.Shelf.fault_count g.P.Port.goes g.P.Port.bound g.O.Sink.held g.C.Clock.given g.R.Seeds.given
    (handed c.args.shelf.now c.args.port.now c.args.out.now c.args.clock.now c.args.seeds.now)
    (handed c.answer-status.new.shelf c.answer-status.new.port c.answer-status.new.out c.answer-status.new.clock c.answer-status.new.seeds)
    (texts c.args.words.now) _ _ _ _ _ c.answer-status.result c.tell.result _ _ _ _ _ _ _ _ c.tell.ensures.same c.answer-status.ensures.met).serve

pub returns-clause-device : goal.returns-clause-device
returns-clause-device g c =
    (told_so g.S.D.Disk g.S.Shelf.told g.S.Shelf.slot g.S.Shelf.fault_count g.P.Port.goes g.P.Port.bound g.O.Sink.held g.C.Clock.given g.R.Seeds.given
    (handed c.args.shelf.now c.args.port.now c.args.out.now c.args.clock.now c.args.seeds.now)
    (handed c.answer-status.new.shelf c.answer-status.new.port c.answer-status.new.out c.answer-status.new.clock c.answer-status.new.seeds)
    (texts c.args.words.now) _ _ _ _ _ c.answer-status.result c.tell.result _ _ _ _ _ _ _ _ c.tell.ensures.same c.answer-status.ensures.met).device

pub returns-clause-accepted : goal.returns-clause-accepted
returns-clause-accepted g c =
    accepted c.sealed_opens.ensures c.read_back.ensures c.one_script.ensures (texts c.args.words.now) _ _ _ _ _ _ c.tell.result _ _ _ _ _ _ _ _
    (told_so g.S.D.Disk g.S.Shelf.told g.S.Shelf.slot g.S.Shelf.fault_count g.P.Port.goes g.P.Port.bound g.O.Sink.held g.C.Clock.given g.R.Seeds.given
    (handed c.args.shelf.now c.args.port.now c.args.out.now c.args.clock.now c.args.seeds.now)
    (handed c.answer-status.new.shelf c.answer-status.new.port c.answer-status.new.out c.answer-status.new.clock c.answer-status.new.seeds)
    (texts c.args.words.now) _ _ _ _ _ c.answer-status.result c.tell.result _ _ _ _ _ _ _ _ c.tell.ensures.same c.answer-status.ensures.met)

pub returns-clause-taken : goal.returns-clause-taken
returns-clause-taken g c line is text has password refusal =
    taken _ _ line c.tell.result _ _ _ _ text
    ((told_so g.S.D.Disk g.S.Shelf.told g.S.Shelf.slot g.S.Shelf.fault_count g.P.Port.goes g.P.Port.bound g.O.Sink.held g.C.Clock.given g.R.Seeds.given
    (handed c.args.shelf.now c.args.port.now c.args.out.now c.args.clock.now c.args.seeds.now)
    (handed c.answer-status.new.shelf c.answer-status.new.port c.answer-status.new.out c.answer-status.new.clock c.answer-status.new.seeds)
    (texts c.args.words.now) _ _ _ _ _ c.answer-status.result c.tell.result _ _ _ _ _ _ _ _ c.tell.ensures.same c.answer-status.ensures.met).device line is)
    has password refusal

pub returns-clause-silent : goal.returns-clause-silent
returns-clause-silent g c silent none =
    c.answer-status.ensures.silent (silent_before c.answer-status.result c.tell.result c.tell.ensures.same silent) none

pub returns-clause-link : goal.returns-clause-link
returns-clause-link g c fault devicing =
    c.answer-status.ensures.link (link_before c.answer-status.result c.tell.result c.tell.ensures.same fault) devicing
