use Rattle.std.proofs.Common.{◌≡◌, ap, sym, subst, IfOk}
use Rattle.sn_device.specs.Runs.{Call, a_uuid, put}
use Rattle.sn_course.specs.Lines.{note_kind}
use Rattle.sn_laws.specs.Lookups.{Bytes}
use Rattle.sn_laws.specs.Runs.{end}
use Rattle.sn_script.specs.declared.script.Line.TheVariants as line
use Rattle.sn_events.specs.Events.{CallCame}
use Rattle.sn_replay.proofs.Asking.{put_of}
use Rattle.sn_replay.proofs.calls.put_line.Goals as goal

pub returns : goal.returns
returns c =
    let at = c.args.at.now in
    let name = c.args.device.now in
    let fates = c.args.fates.now in
    let text : Bytes = c.args.text.now in
    let call : Call = put note_kind text in
    let written : Call = put note_kind c.as_str-2.result.now in
    let same : written ≡ call = ap (λ (t : Bytes). put note_kind t) c.as_str-2.ensures in
    λ script secret stage differ is_at.
    let w = stage.world in
    let s = end stage.moves in
    let came = c.put-outcome.ensures.came secret w s differ is_at.stands in
    c.heard.ensures script secret stage at.settings (line.Put name fates text) call c.args.replaying.ends c.as_str.result.now c.line_words-words.result c.put-outcome.new.words
    c.setting_at.result a_uuid differ is_at
    (put_of script secret stage at.number at.settings name fates text c.fixed.result c.in_ok-try_clone.field-0 (sym c.fixed.ensures) (sym c.in_ok-try_clone.ensures))
    c.as_str.ensures c.line_words-words.ensures c.setting_at.ensures
    (subst (λ (k : Call). IfOk c.put-outcome.result (CallCame secret w s c.as_str.result.now k c.line_words-words.result c.put-outcome.new.words c.setting_at.result a_uuid c.args.replaying.ends))
    same came)
