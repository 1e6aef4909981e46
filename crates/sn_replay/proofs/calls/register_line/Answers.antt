use Rattle.std.proofs.Common.{◌≡◌, ap, sym, subst, ◌∙◌, IfOk}
use Rattle.sn_device.specs.Runs.{Call, nothing, register}
use Rattle.sn_laws.specs.Lookups.{Bytes}
use Rattle.sn_telling.specs.declared.calling.Calling.{Calling}
use Rattle.sn_laws.specs.Runs.{end}
use Rattle.sn_script.specs.declared.script.Line.TheVariants as line
use Rattle.sn_events.specs.Events.{CallCame}
use Rattle.sn_replay.specs.Playing.{IsLineOf}
use Rattle.sn_replay.proofs.Asking.{register_of}
use Rattle.sn_replay.proofs.Calling.{readable_of}
use Rattle.sn_replay.proofs.calls.register_line.Goals as goal

pub returns : goal.returns
returns c =
    let at = c.args.at.now in
    let name = c.args.device.now in
    let fates = c.args.fates.now in
    let identifier : Bytes = c.args.identifier.now in
    let password : Bytes = c.args.password.now in
    let call : Call = register identifier password at.settings.cost in
    let written : Call = register c.as_str-2.result.now c.as_str-3.result.now at.settings.cost in
    let same : written ≡ call = ap (λ (i : Bytes). register i c.as_str-3.result.now at.settings.cost) c.as_str-2.ensures
    ∙ ap (λ (p : Bytes). register identifier p at.settings.cost) c.as_str-3.ensures in
    λ script secret stage differ of is_at.
    let w = stage.world in
    let s = end stage.moves in
    let came = c.register-outcome.ensures.came secret w s differ is_at.stands
    (readable_of c.runs_readable.ensures script secret c.args.replaying stage c.as_str.result.now written is_at tt) in
    let set = c.in_ok-calling.ensures in
    c.heard.ensures script secret stage at.settings (line.Register name identifier password fates) call c.args.replaying.ends c.as_str.result.now c.line_words-words.result c.register-outcome.new.words
    c.setting_at.result (λ given. nothing) differ is_at
    (subst (λ (k : Calling). IsLineOf script secret stage (record { number = at.number; settings = at.settings; asks = line.Register name identifier password fates }) name call k)
    (sym set.1) (register_of script secret stage at.number at.settings name identifier password fates set.0 of set.2))
    c.as_str.ensures c.line_words-words.ensures c.setting_at.ensures
    (subst (λ (k : Call). IfOk c.register-outcome.result (CallCame secret w s c.as_str.result.now k c.line_words-words.result c.register-outcome.new.words c.setting_at.result (λ given. nothing) c.args.replaying.ends))
    same came)
