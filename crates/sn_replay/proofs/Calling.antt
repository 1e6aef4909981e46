-- What the ends ask of a call, and what they gave of it by the line's own words.
use Rattle.std.proofs.Common.{◌≡◌, List, [], ◌∷◌, subst}
use Rattle.rand_chacha.specs.ChaCha.{ChaCha}
use Rattle.sn_device.specs.Runs.{Act, Call, asked, commits as committed}
use Rattle.sn_course.specs.Stages.{Stage}
use Rattle.sn_course.specs.Headline.{IsPasswordOf, PasswordsApart}
use Rattle.sn_events.specs.Calling.{host}
use Rattle.sn_events.specs.Events.{AreReadableBy, AsksReadable}
use Rattle.sn_events.specs.declared.ends.Ends.{Ends}
use Rattle.sn_events.specs.declared.setting.Setting.{Setting}
use Rattle.sn_laws.specs.Lookups.{Bytes}
use Rattle.sn_laws.specs.Runs.{end}
use Rattle.sn_laws.specs.declared.ideal.Ideal.{Ideal}
use Rattle.sn_lines.proofs.Facts.{apart_may_call}
use Rattle.sn_lines.specs.Lines.{MayCall}
use Rattle.sn_lines.specs.Passwords.{GivesOf}
use Rattle.sn_readable.specs.Laws.{AreReadableBy as ReadableBy, RunsReadable}
use Rattle.sn_script.specs.declared.script.Script.{Script}
use Rattle.sn_rows.specs.Table.{Rows}
use Rattle.sn_world.specs.Calls.{rows_behind}
use Rattle.sn_world.specs.Fitting.{FitsCall}
use Rattle.sn_world.specs.World.{World}
use Rattle.sn_replay.specs.Coming.{HasCame}
use Rattle.sn_replay.specs.Playing.{IsAt}
use Rattle.sn_replay.specs.declared.came.Came.{Came}
use Rattle.sn_replay.specs.declared.replaying.Replaying.{Replaying}
use Rattle.sn_replay.proofs.Hosts.{host_named}

pub has_along : (secret : Bytes) (w : World) (s : Ideal) (call : Call) (old : Ends) (came : Came) (one other : Bytes) (words same : ChaCha) (setting set : Setting)
    → one ≡ other → words ≡ same → setting ≡ set → HasCame secret w s one call words setting old came → HasCame secret w s other call same set old came
has_along secret w s call old came one other words same setting set named drew set_so x =
    subst (λ (n : Bytes). HasCame secret w s n call same set old came) named
    (subst (λ (k : ChaCha). HasCame secret w s one call k set old came) drew
    (subst (λ (z : Setting). HasCame secret w s one call words z old came) set_so x))

-- what holds of all fates holds so here too
readable_so : (at : Bytes) (server : Rows) (acts : List Act) → ReadableBy at server acts → AreReadableBy at server acts
readable_so at server [] h = tt
readable_so at server (committed what changes ∷ acts) h = readable_so at server acts h
readable_so at server (asked r reply ∷ acts) h = (h.0, λ fate answered. readable_so at (rows_behind server fate) acts (h.1 fate answered))

-- whatever the call does, a server reads its requests
pub readable_of : RunsReadable → (script : Script) (secret : Bytes) (replaying : Replaying) (c : Stage) (name : Bytes) (call : Call) → IsAt script secret replaying c
    → FitsCall call → AsksReadable call (c.world.devices name)
readable_of readable script secret replaying c name call at fits =
    λ words acts halt run server.
    readable_so host server acts
    (readable host secret c.world (end c.moves) name 1 call words acts halt server host_named at.stands.holds (at.fits.devices name) fits run)

-- no second password of the script has the check value of a set's under the parameters of one that an account has, so the call may be made
pub may_call : (script : Script) (secret : Bytes) (replaying : Replaying) (c : Stage) (name : Bytes) (call : Call) → PasswordsApart script c.moves
    → IsAt script secret replaying c → GivesOf (IsPasswordOf script) call → MayCall (end c.moves) (c.world.devices name) call
may_call script secret replaying c name call apart at gives = apart_may_call (IsPasswordOf script) c.world (end c.moves) name call apart at.holds_of gives
