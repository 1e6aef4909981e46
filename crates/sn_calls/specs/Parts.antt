-- A call by its parts: what it has the device do, the server that it asks, and whether words are drawn for it.
use Rattle.std.specs.Prelude.{◌≡◌, ℕ, List, Bool, true, false, Option, Some, None, string_bytes, ⊤}
use Rattle.sn_device.specs.Runs.{Call, Given, a_text, a_uuid, content, delete, edit, lines, list, nothing, passwd, put, register, sign_in, sync}
use Rattle.sn_device.specs.States.{Bytes}
use Rattle.sn_device.specs.declared.error.ClientError.TheVariants as refusal
use Rattle.sn_client.specs.declared.error.DeviceError.{DeviceError}
use Rattle.sn_client.specs.declared.error.DeviceError.TheVariants as load
use Rattle.sn_rows.specs.Bounds.{HasLength}
use Rattle.sn_string.specs.Bounds.{IsIdentifier}
use Rattle.sn_calls.specs.declared.device_call.DeviceCall.{DeviceCall}
use Rattle.sn_calls.specs.declared.device_call.DeviceCall.TheVariants.{Register, SignIn, Put, Edit, Delete, List as ListItems, Content, Sync, ChangePassword}
use Rattle.sn_calls.specs.declared.ends.Answered.{Answered}
use Rattle.sn_calls.specs.declared.ends.Answered.TheVariants as answer
use Rattle.sn_calls.specs.declared.ends.CallEnd.{CallEnd}
use Rattle.sn_calls.specs.declared.ends.CallEnd.TheVariants as end

-- what the device is to do
abbrev pub call_of : DeviceCall → Call
call_of (Register server identifier password cost) = register identifier.now password.now cost
call_of (SignIn server identifier password) = sign_in identifier.now password.now
call_of (Put kind text) = put kind.now text.now
call_of (Edit uuid text) = edit uuid text.now
call_of (Delete uuid) = delete uuid
call_of ListItems = list
call_of (Content uuid) = content uuid
call_of (Sync server) = sync
call_of (ChangePassword server password cost) = passwd password.now cost

-- the host that it asks, if it asks one
abbrev pub server_of : DeviceCall → Option Bytes
server_of (Register server identifier password cost) = Some server.now
server_of (SignIn server identifier password) = Some server.now
server_of (Put kind text) = None
server_of (Edit uuid text) = None
server_of (Delete uuid) = None
server_of ListItems = None
server_of (Content uuid) = None
server_of (Sync server) = Some server.now
server_of (ChangePassword server password cost) = Some server.now

-- whether words are drawn for it: uuids, nonces and initialization vectors come of them
abbrev pub draws : Call → Bool
draws (register identifier password cost) = true
draws (sign_in identifier password) = true
draws (put kind text) = true
draws (edit uuid text) = true
draws (delete uuid) = false
draws list = false
draws (content uuid) = false
draws sync = true
draws (passwd password cost) = true

-- an identifier has 1 to 254 bytes, an item's type 1 to 255
abbrev pub HasBounds : Call → Type 0
HasBounds (register identifier password cost) = IsIdentifier identifier
HasBounds (sign_in identifier password) = ⊤
HasBounds (put kind text) = HasLength 1 255 kind
HasBounds (edit uuid text) = ⊤
HasBounds (delete uuid) = ⊤
HasBounds list = ⊤
HasBounds (content uuid) = ⊤
HasBounds sync = ⊤
HasBounds (passwd password cost) = ⊤

-- what a call gives that is answered
abbrev pub given_of : Answered → Given
given_of answer.Nothing = nothing
given_of (answer.Uuid uuid) = a_uuid uuid
given_of (answer.Text text) = a_text (string_bytes text)
given_of (answer.Lines found) = lines found

-- what a store that isn't loaded makes of a call
abbrev pub end_of : DeviceError → CallEnd
end_of (load.Foreign place) = end.Foreign place
end_of (load.Damaged place) = end.Damaged place
end_of (load.Rows kind) = end.Rows kind
end_of load.DiskFault = end.DiskFault
end_of load.Memory = end.Memory

-- the link failed: it couldn't be aimed, or an exchange over it failed
abbrev pub IsLinkFault : CallEnd → Type 0
IsLinkFault (end.Answered given) = ⊥
IsLinkFault (end.Refused why) = why ≡ refusal.LinkFault
IsLinkFault (end.Foreign place) = ⊥
IsLinkFault (end.Damaged place) = ⊥
IsLinkFault (end.Rows kind) = ⊥
IsLinkFault end.DiskFault = ⊥
IsLinkFault end.LinkFault = ⊤
IsLinkFault end.Memory = ⊥
