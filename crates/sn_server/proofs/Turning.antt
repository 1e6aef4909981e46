-- A text that isn't read turns its message away.
use Rattle.std.proofs.Common.{inr, refl, sym, subst}
use Rattle.sn_http.specs.declared.message.Message.{Message}
use Rattle.sn_sync.specs.Refusals.{Caused}
use Rattle.sn_sync.specs.Requests.{RefusesRequest}
use Rattle.sn_sync.specs.declared.error.SyncError.{SyncError}
use Rattle.sn_sync.specs.declared.error.SyncError.TheVariants as error
use Rattle.sn_sync.specs.declared.request.Route.{Route}
use Rattle.sn_server.specs.Routing.{GoesTo, text_of}
use Rattle.sn_server.specs.Turning.{IsTurned, IsUnreadFor}
use Rattle.sn_server.specs.declared.routing.Turned.{Turned}

pub turns : (message : Message) (on : Route) (e : SyncError) (turned : Turned) → GoesTo message on → Caused (RefusesRequest on (text_of on message)) e → IsUnreadFor e turned → IsTurned message turned
turns message on error.Memory turned goes cause is = subst (IsTurned message) (sym is) tt
turns message on error.NotJson turned goes cause is = subst (IsTurned message) (sym is) (inr (inr (on, goes, error.NotJson, cause, refl, refl)))
turns message on (error.Member name) turned goes cause is = subst (IsTurned message) (sym is) (inr (inr (on, goes, error.Member name, cause, refl, refl)))
turns message on (error.Limit name number) turned goes cause is = subst (IsTurned message) (sym is) (inr (inr (on, goes, error.Limit name number, cause, refl, refl)))
