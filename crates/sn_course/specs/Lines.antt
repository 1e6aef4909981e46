-- What a line of a script asks for.
use Rattle.std.specs.Prelude.{ℕ, zero, suc, List, [], ◌∷◌, Option, Some, None, codes, nat_le, if◌then◌else◌}
use Rattle.std.specs.Option.{option_map}
use Rattle.sn_device.specs.Runs.{Call, delete, edit, passwd, put, register, sign_in, sync}
use Rattle.sn_laws.specs.Lookups.{Bytes}
use Rattle.sn_link.specs.declared.losses.Losses.{Losses}
use Rattle.sn_report.specs.Labels.{Labels, item_at}
use Rattle.sn_script.specs.declared.script.Fate.{Fate}
use Rattle.sn_script.specs.declared.script.Fate.TheVariants as fate
use Rattle.sn_script.specs.declared.script.Line.{Line}
use Rattle.sn_script.specs.declared.script.Line.TheVariants as line
use Rattle.sn_script.specs.declared.script.Ordinal.{Ordinal}
use Rattle.sn_script.specs.declared.script.Ordinal.TheVariants as ordinal
use Rattle.sn_course.specs.declared.settings.Settings.{Settings}

-- ---- what is lost

-- the less of a number that may be there and another
abbrev pub least : Option ℕ → ℕ → Option ℕ
least None n = Some n
least (Some m) n = if nat_le m n then Some m else Some n

-- exchanges are numbered from 1; there is none of number 0, nor of one that is too long
abbrev pub with_nth : Option ℕ → Ordinal → Option ℕ
with_nth found (ordinal.Nth zero) = found
with_nth found (ordinal.Nth (suc n)) = least found (suc n)
with_nth found ordinal.Beyond = found

-- an event makes no exchange behind the first that loses a message: so of several words of one kind the least number counts
abbrev pub losses_with : Losses → Fate → Losses
losses_with losses (fate.DropRequest which) = record losses { request = with_nth losses.request which }
losses_with losses (fate.DropReply which) = record losses { reply = with_nth losses.reply which }

abbrev pub losses_from : Losses → List Fate → Losses
losses_from losses [] = losses
losses_from losses (f ∷ fates) = losses_from (losses_with losses f) fates

abbrev pub losses_of : List Fate → Losses
losses_of fates = losses_from (record { request = None; reply = None }) fates

abbrev pub fates_of : Line → List Fate
fates_of (line.Register device identifier password fates) = fates
fates_of (line.SignIn device identifier password fates) = fates
fates_of (line.Put device fates text) = fates
fates_of (line.Edit device label fates text) = fates
fates_of (line.Delete device label fates) = fates
fates_of (line.Sync device fates) = fates
fates_of (line.Passwd device password fates) = fates
fates_of (line.Seed bytes) = []
fates_of (line.Cost n) = []
fates_of (line.Clock n) = []
fates_of (line.Late device request) = []
fates_of line.Show = []

-- ---- devices, items and calls

-- the device that a line begins, or goes on with
abbrev pub device_of : Line → Option Bytes
device_of (line.Register device identifier password fates) = Some device
device_of (line.SignIn device identifier password fates) = Some device
device_of (line.Put device fates text) = Some device
device_of (line.Edit device label fates text) = Some device
device_of (line.Delete device label fates) = Some device
device_of (line.Sync device fates) = Some device
device_of (line.Passwd device password fates) = Some device
device_of (line.Late device request) = None
device_of line.Show = None
device_of (line.Seed bytes) = None
device_of (line.Cost n) = None
device_of (line.Clock n) = None

-- the item of a label that there is
abbrev pub labelled_item : Labels → Ordinal → Option Bytes
labelled_item labels (ordinal.Nth n) = item_at labels n
labelled_item labels ordinal.Beyond = None

-- the type of each item that a script puts
abbrev pub note_kind : Bytes
note_kind = codes "Note"

-- the call that a line asks its device for; none where it names an item that there isn't yet
abbrev pub call_of : Labels → Settings → Line → Option Call
call_of labels settings (line.Register device identifier password fates) = Some (register identifier password settings.cost)
call_of labels settings (line.SignIn device identifier password fates) = Some (sign_in identifier password)
call_of labels settings (line.Put device fates text) = Some (put note_kind text)
call_of labels settings (line.Edit device label fates text) = option_map (λ uuid. edit uuid text) (labelled_item labels label)
call_of labels settings (line.Delete device label fates) = option_map delete (labelled_item labels label)
call_of labels settings (line.Sync device fates) = Some sync
call_of labels settings (line.Passwd device password fates) = Some (passwd password settings.cost)
call_of labels settings (line.Late device request) = None
call_of labels settings line.Show = None
call_of labels settings (line.Seed bytes) = None
call_of labels settings (line.Cost n) = None
call_of labels settings (line.Clock n) = None

-- the password with which a line begins an account or signs in to one, or which it gives to one
abbrev pub password_of : Line → Option Bytes
password_of (line.Register device identifier password fates) = Some password
password_of (line.SignIn device identifier password fates) = Some password
password_of (line.Put device fates text) = None
password_of (line.Edit device label fates text) = None
password_of (line.Delete device label fates) = None
password_of (line.Sync device fates) = None
password_of (line.Passwd device password fates) = Some password
password_of (line.Late device request) = None
password_of line.Show = None
password_of (line.Seed bytes) = None
password_of (line.Cost n) = None
password_of (line.Clock n) = None
