use Rattle.sn_device.specs.Runs.{nothing, sync}
use Rattle.sn_laws.specs.Runs.{end}
use Rattle.sn_script.specs.declared.script.Line.TheVariants as line
use Rattle.sn_replay.proofs.Asking.{sync_of}
use Rattle.sn_replay.proofs.Calling.{may_call, readable_of}
use Rattle.sn_replay.proofs.calls.sync_line.Goals as goal

pub returns : goal.returns
returns c =
    let at = c.args.at.now in
    let name = c.args.device.now in
    let fates = c.args.fates.now in
    λ script secret stage differ apart is_at.
    let w = stage.world in
    let s = end stage.moves in
    let came = c.sync-outcome.ensures.came secret w s differ is_at.stands (may_call script secret c.args.replaying stage c.as_str.result.now sync apart is_at tt)
    (readable_of c.runs_readable.ensures script secret c.args.replaying stage c.as_str.result.now sync is_at tt) in
    c.heard.ensures script secret stage at.settings (line.Sync name fates) sync c.args.replaying.ends c.as_str.result.now c.line_words-words.result c.sync-outcome.new.words
    c.setting_at.result (λ given. nothing) differ is_at
    (sync_of script secret stage at.number at.settings name c.every_sync_ends.ensures differ is_at.stands.holds fates)
    c.as_str.ensures c.line_words-words.ensures c.setting_at.ensures came
