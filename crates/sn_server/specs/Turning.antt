-- Why a message is no request, as the code says it.
use Rattle.std.specs.Prelude.{◌≡◌, [], ⊤}
use Rattle.sn_http.specs.declared.message.Message.{Message}
use Rattle.sn_sync.specs.declared.error.SyncError.{SyncError}
use Rattle.sn_sync.specs.declared.error.SyncError.TheVariants as error
use Rattle.sn_server.specs.Routing.{TurnsAway, refusal_of}
use Rattle.sn_server.specs.declared.routing.Turned.{Turned}
use Rattle.sn_server.specs.declared.routing.Turned.TheVariants.{Away, Memory}

abbrev pub IsTurned : Message → Turned → Type 0
IsTurned message (Away given allow) = TurnsAway message given allow
IsTurned message Memory = ⊤

-- the text isn't read for this reason
abbrev pub IsUnreadFor : SyncError → Turned → Type 0
IsUnreadFor error.Memory turned = turned ≡ Memory
IsUnreadFor error.NotJson turned = turned ≡ Away (refusal_of error.NotJson) []
IsUnreadFor (error.Member name) turned = turned ≡ Away (refusal_of (error.Member name)) []
IsUnreadFor (error.Limit name number) turned = turned ≡ Away (refusal_of (error.Limit name number)) []
