use Rattle.std.proofs.Common.{◌≡◌, ap, sym, subst, ◌∙◌, IfOk}
use Rattle.std.specs.Str.{IsUtf8}
use Rattle.sn_device.specs.Runs.{Call, nothing, sign_in}
use Rattle.sn_laws.specs.Lookups.{Bytes}
use Rattle.sn_string.specs.Bounds.{IsIdentifier}
use Rattle.sn_world.specs.Calls.{IsOnlyOf}
use Rattle.sn_laws.specs.Runs.{end}
use Rattle.sn_script.specs.declared.script.Line.TheVariants as line
use Rattle.sn_events.specs.Events.{CallCame}
use Rattle.sn_replay.proofs.Asking.{sign_in_of}
use Rattle.sn_replay.proofs.Calling.{may_call, readable_of}
use Rattle.sn_replay.proofs.calls.sign_in_line.Goals as goal

pub returns : goal.returns
returns c =
    let at = c.args.at.now in
    let name = c.args.device.now in
    let fates = c.args.fates.now in
    let identifier : Bytes = c.args.identifier.now in
    let password : Bytes = c.args.password.now in
    let call : Call = sign_in identifier password in
    let written : Call = sign_in c.as_str-2.result.now c.as_str-3.result.now in
    let same : written ≡ call = ap (λ (i : Bytes). sign_in i c.as_str-3.result.now) c.as_str-2.ensures ∙ ap (λ (p : Bytes). sign_in identifier p) c.as_str-3.ensures in
    λ script secret stage differ apart of is_at.
    let w = stage.world in
    let s = end stage.moves in
    let only : IsOnlyOf s c.as_str-2.result.now c.as_str-3.result.now =
    subst (λ (i : Bytes). IsOnlyOf s i c.as_str-3.result.now) (sym c.as_str-2.ensures)
    (subst (λ (p : Bytes). IsOnlyOf s identifier p) (sym c.as_str-3.ensures)
    (may_call script secret c.args.replaying stage name call apart is_at of)) in
    let came = c.sign_in-outcome.ensures.came secret w s differ is_at.stands only
    (readable_of c.runs_readable.ensures script secret c.args.replaying stage c.as_str.result.now written is_at
    (subst IsIdentifier (sym c.as_str-2.ensures) c.requires.identifier, c.as_str-2.utf8)) in
    c.heard.ensures script secret stage at.settings (line.SignIn name identifier password fates) call c.args.replaying.ends c.as_str.result.now c.line_words-words.result c.sign_in-outcome.new.words
    c.setting_at.result (λ given. nothing) differ is_at
    (sign_in_of script secret stage at.number at.settings name identifier password fates c.in_ok-try_clone.field-0 (sym c.in_ok-try_clone.ensures) c.requires.identifier
    (subst IsUtf8 c.as_str-2.ensures c.as_str-2.utf8) of)
    c.as_str.ensures c.line_words-words.ensures c.setting_at.ensures
    (subst (λ (k : Call). IfOk c.sign_in-outcome.result (CallCame secret w s c.as_str.result.now k c.line_words-words.result c.sign_in-outcome.new.words c.setting_at.result (λ given. nothing) c.args.replaying.ends))
    same came)
