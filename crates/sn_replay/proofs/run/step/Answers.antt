use Rattle.std.proofs.Common.{◌≡◌, ◌++◌, List, [], ◌∷◌, Some, true, false, sym, subst, ◌∙◌}
use Rattle.sn_report.specs.declared.report.Event.{Event}
use Rattle.sn_replay.specs.Lines.{reports}
use Rattle.sn_replay.specs.Playing.{IsPlayed, IsRefusalBehind}
use Rattle.sn_replay.proofs.Lists.{handed_on}
use Rattle.sn_replay.proofs.Played.{cost_after, played_line, played_setting, refused_line}
use Rattle.sn_replay.proofs.run.step.Goals as goal

pub returns-clause-played : goal.returns-clause-played
returns-clause-played c =
    let l = c.args.line.now in
    let so : reports l ≡ true = sym c.reports.ensures ∙ c.if-not-reports.false in
    λ script first lines number_is among p.
    subst (λ (es : List Event). IsPlayed script first (lines ++ l ∷ []) (record { settings = c.args.state.settings; replaying = Some c.in_ok-replaying-2.field-0.replaying; events = es }))
    (sym c.in_ok-push.ensures.ok)
    (played_line c.recounts_grow.ensures c.recounts_more.ensures c.moves_more.ensures script c.reporting_more.ensures first lines l c.args.state p c.args.number number_is
    so c.in_ok-replaying.replaying c.in_ok-replaying.ensures c.recounts_go.ensures c.in_ok-replaying-2.field-0
    (λ secret stage differ apart at. c.in_ok-replaying-2.ensures.told script secret stage differ apart among at))

pub returns-then-not-reports-clause-played : goal.returns-then-not-reports-clause-played
returns-then-not-reports-clause-played c =
    let l = c.args.line.now in
    let none : reports l ≡ false = sym c.reports.ensures ∙ c.if-not-reports.true in
    λ script first lines number_is among p.
    played_setting c.recounts_grow.ensures c.recounts_more.ensures c.moves_more.ensures script c.reporting_more.ensures first lines l c.args.state p c.args.number number_is
    c.after_line-settings.result none c.after_line-settings.ensures
    (cost_after c.args.state.settings c.after_line-settings.result l c.requires.cost c.requires.bounded c.after_line-settings.ensures)

pub returns-in_err-replaying-2-clause-refused : goal.returns-in_err-replaying-2-clause-refused
returns-in_err-replaying-2-clause-refused c =
    let l = c.args.line.now in
    let so : reports l ≡ true = sym c.reports.ensures ∙ c.if-not-reports.false in
    λ script first lines number_is p.
    handed_on (IsRefusalBehind script first lines l) c.from_residual-in_err-replaying-2.result c.in_err-replaying-2.field-0.0 c.from_residual-in_err-replaying-2.ensures.1
    (refused_line c.recounts_grow.ensures c.recounts_more.ensures c.moves_more.ensures script c.reporting_more.ensures first lines l c.args.state p c.args.number number_is
    so c.in_ok-replaying.replaying c.in_ok-replaying.ensures c.recounts_go.ensures c.in_err-replaying-2.field-0.0
    (λ secret stage at. c.in_err-replaying-2.ensures.refused script secret stage at))
