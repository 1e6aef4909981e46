use Rattle.std.proofs.Common.{◌≡◌, All, List, subst, sym, take}
use Rattle.sn_laws.specs.Each.{One}
use Rattle.sn_script.specs.declared.script.Line.{Line}
use Rattle.sn_replay.specs.Lines.{IsBounded, IsReplayRefusal}
use Rattle.sn_replay.proofs.Lists.{handed_on}
use Rattle.sn_replay.proofs.Played.{count_of, one_of_lines, played_next, refused_all}
use Rattle.sn_replay.proofs.run.play.Goals as goal

pub step-requires-clause-bounded : goal.step-requires-clause-bounded
step-requires-clause-bounded c =
    let items : List Line = c.as_slice-line-items.result.now in
    let bounded : All IsBounded items = subst (All IsBounded) (sym c.as_slice-line-items.ensures) c.requires.bounded in
    subst IsBounded (sym c.line-item.is) (bounded c.lines.index c.line-item.result c.lines-test.true)

pub lines-preserved : goal.lines-preserved
lines-preserved c =
    let items : List Line = c.as_slice-line-items.result.now in
    let l : Line = c.line-item.result in
    let among : One (λ x. x ≡ l) c.args.script.now.lines =
    subst (One (λ x. x ≡ l)) c.as_slice-line-items.ensures (one_of_lines items c.lines.index l c.lines-test.true c.line-item.is) in
    played_next c.args.script.now c.first_settings.result items c.lines.index l c.in_ok-state.state c.lines-test.true c.line-item.is
    (c.in_ok-state.ensures.played c.args.script.now c.first_settings.result (take c.lines.index items) (count_of items c.lines.index c.lines-test.true) among
    c.lines.invariant)

pub returns-in_err-state-clause-refused : goal.returns-in_err-state-clause-refused
returns-in_err-state-clause-refused c =
    let items : List Line = c.as_slice-line-items.result.now in
    handed_on (IsReplayRefusal c.args.script.now) c.from_residual.result c.in_err-state.field-0.0 c.from_residual.ensures.1
    (refused_all c.args.script.now c.first_settings.result items c.lines.index c.line-item.result c.in_err-state.field-0.0 c.first_settings.ensures
    c.as_slice-line-items.ensures c.lines-test.true c.line-item.is
    (c.in_err-state.ensures.refused c.args.script.now c.first_settings.result (take c.lines.index items) (count_of items c.lines.index c.lines-test.true)
    c.lines.invariant))
