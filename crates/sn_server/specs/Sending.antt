-- The reply to a message that is no request, as the code makes it.
use Rattle.std.specs.Prelude.{◌≡◌, ◌⊎◌, Bool, Result, Ok, Err}
use Rattle.sn_server.specs.Replies.{IsSent, IsUnserved}
use Rattle.sn_server.specs.declared.reply.Reply.{Reply}
use Rattle.sn_server.specs.declared.routing.Turned.{Turned}
use Rattle.sn_server.specs.declared.routing.Turned.TheVariants.{Away, Memory}

abbrev pub IsTurnedAway : Turned → Bool → Reply → Type 0
IsTurnedAway (Away given allow) closing reply = IsSent given allow closing reply ⊎ IsUnserved closing reply
IsTurnedAway Memory closing reply = IsUnserved closing reply

-- the reply that was made, or that of want of memory
abbrev pub IsTheOr : {E : Type 0} → Result Reply E → Bool → Reply → Type 0
IsTheOr (Ok made) closing reply = reply ≡ made
IsTheOr (Err error) closing reply = IsUnserved closing reply
