use Rattle.std.proofs.Common.{◌≡◌, Some, refl, ap, sym, ◌∙◌}
use Rattle.sn_device.specs.Runs.{Call, delete, nothing}
use Rattle.sn_course.specs.Lines.{labelled_item}
use Rattle.sn_course.specs.Settings.{words_of}
use Rattle.sn_laws.specs.Lookups.{Bytes}
use Rattle.sn_laws.specs.Runs.{end}
use Rattle.sn_report.specs.Labels.{Labels}
use Rattle.sn_script.specs.declared.script.Line.TheVariants as line
use Rattle.sn_replay.proofs.Asking.{delete_of, not_labelled}
use Rattle.sn_replay.proofs.calls.delete_line.Goals as goal

pub returns-clause-told : goal.returns-clause-told
returns-clause-told c =
    let at = c.args.at.now in
    let name = c.args.device.now in
    let fates = c.args.fates.now in
    let uuid : Bytes = c.in-Some.uuid in
    let call : Call = delete uuid in
    λ script secret stage differ is_at.
    let w = stage.world in
    let s = end stage.moves in
    let found : labelled_item stage.labels c.args.label ≡ Some uuid =
    ap (λ (ls : Labels). labelled_item ls c.args.label) (sym is_at.labels_are) ∙ sym c.labelled_item.ensures ∙ c.in-Some.is in
    let came = c.delete-outcome.ensures.came secret w s (words_of at.settings at.number) differ is_at.stands in
    c.in_ok-told.ensures script secret stage at.settings (line.Delete name c.args.label fates) call c.args.replaying.ends c.as_str.result.now (words_of at.settings at.number) (words_of at.settings at.number)
    c.setting_at.result (λ given. nothing) differ is_at
    (delete_of script secret stage at.number at.settings name c.args.label fates uuid found)
    c.as_str.ensures refl c.setting_at.ensures came

pub returns-in_default-clause-refused : goal.returns-in_default-clause-refused
returns-in_default-clause-refused c =
    λ script secret stage is_at.
    (refl, not_labelled stage.labels c.args.replaying.seen.labels c.args.label c.labelled_item.result is_at.labels_are c.labelled_item.ensures c.in_default.is)
