use Rattle.std.proofs.Common.{◌≡◌, Some, refl, ap, sym, subst, ◌∙◌, IfOk}
use Rattle.sn_device.specs.Runs.{Call, edit, nothing}
use Rattle.sn_course.specs.Lines.{labelled_item}
use Rattle.sn_laws.specs.Lookups.{Bytes}
use Rattle.sn_laws.specs.Runs.{end}
use Rattle.sn_report.specs.Labels.{Labels}
use Rattle.sn_script.specs.declared.script.Line.TheVariants as line
use Rattle.sn_events.specs.Events.{CallCame}
use Rattle.sn_replay.proofs.Asking.{edit_of, not_labelled}
use Rattle.sn_replay.proofs.calls.edit_line.Goals as goal

pub returns-clause-told : goal.returns-clause-told
returns-clause-told c =
    let at = c.args.at.now in
    let name = c.args.device.now in
    let fates = c.args.fates.now in
    let text : Bytes = c.args.text.now in
    let uuid : Bytes = c.in-Some.uuid in
    let call : Call = edit uuid text in
    let written : Call = edit uuid c.as_str-2.result.now in
    let same : written ≡ call = ap (λ (t : Bytes). edit uuid t) c.as_str-2.ensures in
    λ script secret stage differ is_at.
    let w = stage.world in
    let s = end stage.moves in
    let found : labelled_item stage.labels c.args.label ≡ Some uuid =
    ap (λ (ls : Labels). labelled_item ls c.args.label) (sym is_at.labels_are) ∙ sym c.labelled_item.ensures ∙ c.in-Some.is in
    let came = c.edit-outcome.ensures.came secret w s differ is_at.stands in
    c.in_ok-told.ensures script secret stage at.settings (line.Edit name c.args.label fates text) call c.args.replaying.ends c.as_str.result.now c.line_words-words.result c.edit-outcome.new.words
    c.setting_at.result (λ given. nothing) differ is_at
    (edit_of script secret stage at.number at.settings name c.args.label fates uuid text c.in_ok-try_clone.field-0 found (sym c.in_ok-try_clone.ensures))
    c.as_str.ensures c.line_words-words.ensures c.setting_at.ensures
    (subst (λ (k : Call). IfOk c.edit-outcome.result (CallCame secret w s c.as_str.result.now k c.line_words-words.result c.edit-outcome.new.words c.setting_at.result (λ given. nothing) c.args.replaying.ends))
    same came)

pub returns-in_default-clause-refused : goal.returns-in_default-clause-refused
returns-in_default-clause-refused c =
    λ script secret stage is_at.
    (refl, not_labelled stage.labels c.args.replaying.seen.labels c.args.label c.labelled_item.result is_at.labels_are c.labelled_item.ensures c.in_default.is)
