use Rattle.std.proofs.Common.{◌≡◌, ap, sym, subst, IfOk}
use Rattle.sn_device.specs.Runs.{Call, nothing, passwd}
use Rattle.sn_course.specs.Headline.{IsPasswordOf}
use Rattle.sn_laws.specs.Lookups.{Bytes}
use Rattle.sn_laws.specs.Runs.{end}
use Rattle.sn_script.specs.declared.script.Line.TheVariants as line
use Rattle.sn_events.specs.Events.{CallCame}
use Rattle.sn_replay.proofs.Asking.{passwd_of}
use Rattle.sn_replay.proofs.Calling.{may_call, readable_of}
use Rattle.sn_replay.proofs.calls.passwd_line.Goals as goal

pub returns : goal.returns
returns c =
    let at = c.args.at.now in
    let name = c.args.device.now in
    let fates = c.args.fates.now in
    let password : Bytes = c.args.password.now in
    let call : Call = passwd password at.settings.cost in
    let written : Call = passwd c.as_str-2.result.now at.settings.cost in
    let same : written ≡ call = ap (λ (p : Bytes). passwd p at.settings.cost) c.as_str-2.ensures in
    λ script secret stage differ apart of is_at.
    let w = stage.world in
    let s = end stage.moves in
    let given : IsPasswordOf script c.as_str-2.result.now = subst (IsPasswordOf script) (sym c.as_str-2.ensures) of in
    let came = c.passwd-outcome.ensures.came secret w s differ is_at.stands
    (may_call script secret c.args.replaying stage c.as_str.result.now written apart is_at given)
    (readable_of c.runs_readable.ensures script secret c.args.replaying stage c.as_str.result.now written is_at tt) in
    c.heard.ensures script secret stage at.settings (line.Passwd name password fates) call c.args.replaying.ends c.as_str.result.now c.line_words-words.result c.passwd-outcome.new.words
    c.setting_at.result (λ given. nothing) differ is_at
    (passwd_of script secret stage at.number at.settings name c.passwds_end.ensures differ is_at.stands.holds password fates of)
    c.as_str.ensures c.line_words-words.ensures c.setting_at.ensures
    (subst (λ (k : Call). IfOk c.passwd-outcome.result (CallCame secret w s c.as_str.result.now k c.line_words-words.result c.passwd-outcome.new.words c.setting_at.result (λ given. nothing) c.args.replaying.ends))
    same came)
