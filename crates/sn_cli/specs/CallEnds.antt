-- The status of a device's call by how it ended, and its output.
use Rattle.std.specs.Prelude.{◌≡◌, ◌≢◌, ◌⊎◌, ℕ, List, ◌++◌, codes, string_bytes, ⊤}
use Rattle.std.specs.declared.option.Option.{Option}
use Rattle.std.specs.Io.KnownBytes.{Keeps}
use Rattle.sn_calls.specs.declared.ends.Answered.{Answered}
use Rattle.sn_calls.specs.declared.ends.Answered.TheVariants as answer
use Rattle.sn_calls.specs.declared.ends.CallEnd.{CallEnd}
use Rattle.sn_calls.specs.declared.ends.CallEnd.TheVariants as end
use Rattle.sn_cli.specs.Listed.{list_text}
use Rattle.sn_cli.specs.Outputs.{Writes}
use Rattle.sn_status.specs.declared.refusal.ClientRefusal.{ClientRefusal}
use Rattle.sn_status.specs.declared.refusal.ClientRefusal.TheVariants as client
use Rattle.sn_status.specs.declared.refusal.Refusal.TheVariants.{Client}
use Rattle.sn_status.specs.declared.status.Status.{Status}
use Rattle.sn_status.specs.declared.status.Status.TheVariants as status
use Rattle.sn_status.specs.declared.status.Unfit.{Unfit}
use Rattle.sn_status.specs.declared.status.Unfit.TheVariants as unfit
use Rattle.sn_device.specs.declared.error.ClientError.{ClientError}
use Rattle.sn_device.specs.declared.error.ClientError.TheVariants as error
use Rattle.sn_string.specs.Uuids.{uuid_text}

-- what is written where a call is answered
abbrev pub output_of : Answered → List ℕ
output_of answer.Nothing = codes "ok\n"
output_of (answer.Uuid uuid) = uuid_text uuid ++ codes "\n"
output_of (answer.Text text) = string_bytes text
output_of (answer.Lines rows) = list_text rows

-- a refusal as the device's
abbrev pub client_error : ClientRefusal → ClientError
client_error client.NoAccount = error.NoAccount
client_error (client.NoItem uuid) = error.NoItem uuid
client_error (client.Closed nonce) = error.Closed nonce
client_error (client.TooLong length) = error.TooLong length
client_error client.NotObject = error.NotObject
client_error client.RoundsUsed = error.RoundsUsed
client_error (client.NoFreshUuid drawn) = error.NoFreshUuid drawn
client_error client.WrongPassword = error.WrongPassword
client_error (client.OtherAccount identifier) = error.OtherAccount identifier
client_error (client.HasAccount identifier) = error.HasAccount identifier
client_error (client.Cost cost) = error.Cost cost
client_error (client.NumbersUsed next) = error.NumbersUsed next
client_error (client.Rekey why) = error.Rekey why
client_error (client.TooLarge size) = error.TooLarge size

-- what is wrong with a store, as the end of a call
abbrev pub unfit_call_end : Unfit → CallEnd
unfit_call_end (unfit.Foreign place) = end.Foreign place
unfit_call_end (unfit.Damaged place) = end.Damaged place
unfit_call_end (unfit.Rows kind) = end.Rows kind

-- An end at which memory may be wanting: that of the call, or that for the output or the line that tells values. A fault
-- has neither.
abbrev pub MayWant : CallEnd → Type 0
MayWant (end.Answered given) = ⊤
MayWant (end.Refused why) = why ≢ error.LinkFault
MayWant (end.Foreign place) = ⊤
MayWant (end.Damaged place) = ⊤
MayWant (end.Rows kind) = ⊤
MayWant end.DiskFault = ⊥
MayWant end.LinkFault = ⊥
MayWant end.Memory = ⊤

-- an end that leads to this status, at which nothing is written
abbrev pub LeadsTo : CallEnd → Status → Type 0
LeadsTo ended status.Done = ⊥
LeadsTo ended status.Usage = ⊥
LeadsTo ended (status.Refused (Client refusal)) = ended ≡ end.Refused (client_error refusal)
LeadsTo ended (status.Refused refusal) = ⊥
LeadsTo ended status.DiskFault = ended ≡ end.DiskFault
LeadsTo ended status.LinkFault = (ended ≡ end.LinkFault) ⊎ (ended ≡ end.Refused error.LinkFault)
LeadsTo ended status.ReadFault = ⊥
LeadsTo ended status.WriteFault = ⊥
LeadsTo ended status.Memory = MayWant ended
LeadsTo ended (status.Foreign fault) = ended ≡ unfit_call_end fault
LeadsTo ended (status.Server number tag) = ended ≡ end.Refused (error.Refused number tag)
LeadsTo ended (status.BadAnswer place) = ended ≡ end.Refused (error.BadAnswer place)

-- A call that ended so led to this status: its output was written, or a front of it; or nothing was.
abbrev pub EndsSo : CallEnd → Status → Option (List ℕ) → Option (List ℕ) → Type 0
EndsSo ended status before after =
    ((given : Answered) × (ended ≡ end.Answered given) × Writes status before after (output_of given))
    ⊎ (LeadsTo ended status × Keeps before after)
