-- What the lines of a script are to a replay.
use Rattle.std.specs.Prelude.{◌≡◌, ℕ, ◌≤◌, List, Bool, true, false, Some}
use Rattle.rand_chacha.specs.ChaCha.{ChaCha}
use Rattle.sn_device.specs.Runs.{IsNewSet}
use Rattle.sn_course.specs.Stages.{Stage, Reported}
use Rattle.sn_course.specs.Headline.{IsNotAllowed, MayStand}
use Rattle.sn_course.specs.Lines.{losses_of}
use Rattle.sn_course.specs.Settings.{words_of}
use Rattle.sn_course.specs.declared.settings.Settings.{Settings}
use Rattle.sn_events.specs.declared.setting.Setting.{Setting}
use Rattle.sn_laws.specs.Lookups.{Bytes}
use Rattle.sn_script.specs.declared.script.Fate.{Fate}
use Rattle.sn_script.specs.declared.script.Line.{Line}
use Rattle.sn_script.specs.declared.script.Line.TheVariants as line
use Rattle.sn_script.specs.declared.script.Script.{Script}
use Rattle.sn_string.specs.Bounds.{IsIdentifier}
use Rattle.sn_string.specs.declared.params.KeySet.{KeySet}
use Rattle.sn_telling.specs.declared.calling.Calling.{Calling}
use Rattle.sn_telling.specs.declared.calling.Calling.TheVariants as calling
use Rattle.sn_replay.specs.declared.error.ReplayError.{ReplayError}
use Rattle.sn_replay.specs.declared.error.ReplayError.TheVariants as refusal
use Rattle.sn_replay.specs.declared.settings.Moment.{Moment}

-- what a call at both ends asks of a line: an identifier of 1 to 254 bytes, and a cost from 1 up
abbrev pub IsBounded : Line → Type 0
IsBounded (line.Register device identifier password fates) = IsIdentifier identifier
IsBounded (line.SignIn device identifier password fates) = IsIdentifier identifier
IsBounded (line.Cost n) = 1 ≤ n
IsBounded other = Unit {0}

-- a line that is no setting reports
abbrev pub reports : Line → Bool
reports (line.Seed bytes) = false
reports (line.Cost n) = false
reports (line.Clock n) = false
reports (line.Register device identifier password fates) = true
reports (line.SignIn device identifier password fates) = true
reports (line.Put device fates text) = true
reports (line.Edit device label fates text) = true
reports (line.Delete device label fates) = true
reports (line.Sync device fates) = true
reports (line.Passwd device password fates) = true
reports (line.Late device request) = true
reports line.Show = true

-- with its number and the settings that it finds
abbrev pub reported_at : Moment → Line → Reported
reported_at at l = record { number = at.number; settings = at.settings; asks = l }

-- what is set for its event
abbrev pub setting_at : Settings → List Fate → Setting
setting_at settings fates = record { now = settings.clock; losses = losses_of fates }

-- ---- the set of a registration

abbrev pub DrawsSet : ChaCha → Bytes → Bytes → ℕ → KeySet → Type 0
DrawsSet words identifier password cost set = (left : ChaCha) × IsNewSet words identifier password cost set left

-- the call is a registration, with the set that the line's words give
abbrev pub IsRegistering : Moment → Bytes → Bytes → Calling → Type 0
IsRegistering at identifier password call = (set : KeySet) × (call ≡ calling.Register identifier (Some set))
    × DrawsSet (words_of at.settings at.number) identifier password at.settings.cost set

-- ---- refusals

-- where the stage stands so, the line of this number may not come
abbrev pub IsRefusalAt : ℕ → Stage → Line → ReplayError → Type 0
IsRefusalAt number c l (refusal.NotAllowed n) = (n ≡ number) × ¬ (MayStand c l)
IsRefusalAt number c l refusal.Memory = Unit {0}

-- why a script isn't replayed, want of memory aside
abbrev pub IsReplayRefusal : Script → ReplayError → Type 0
IsReplayRefusal script (refusal.NotAllowed number) = IsNotAllowed script number
IsReplayRefusal script refusal.Memory = Unit {0}
