-- What a sink gained in a session.
use Rattle.std.specs.Prelude.{◌≡◌, ◌⊎◌, ◌++◌, ℕ, ◌+◌, ◌<◌, List, [], length, take}
use Rattle.std.specs.declared.option.Option.{Option}
use Rattle.std.specs.Io.KnownBytes.{Appends}
use Rattle.sn_http.specs.declared.message.Message.{Message}
use Rattle.sn_rows.specs.Table.{Rows}
use Rattle.sn_rows.specs.declared.change.Change.{Change}
use Rattle.sn_server.specs.CheckBodies.{check_bytes}
use Rattle.sn_server.specs.Replies.{Replies, reply_bytes}
use Rattle.sn_server.specs.Stores.{Kept}
use Rattle.sn_server.specs.Steps.{Step, AreSteps, after_all, answers_of}
use Rattle.sn_server.specs.declared.reply.Reply.{Reply}
use Rattle.sn_server.specs.declared.serving.Ended.TheVariants.{End, Broken, Budget, ReadFault, WriteFault, Memory}
use Rattle.sn_server.specs.declared.serving.Session.{Session}
use Rattle.sn_server.specs.declared.serving.Session.TheVariants.{Over, Broken as IsBroken}

-- an answer that may be due on these rows: the reply to a message, or the answer to one that fails a check
abbrev pub IsDue : Rows → List ℕ → Type 0
IsDue rows answer =
    ((message : Message) × (now : ℕ) × (made : List Change) × (reply : Reply) × Replies rows message now made reply × (answer ≡ reply_bytes reply))
    ⊎ ((status : ℕ) × (answer ≡ check_bytes status))

-- Behind the answers of these messages these bytes were written, and the number of the answers written whole is this. At a
-- fault of the sink they are a part, and not all, of an answer that was due on the rows that the messages left.
abbrev pub Tail : {S D : Type 0} → Kept → List Step → Session S D → List ℕ → Type 0
Tail kept steps (Over server End count) more = (more ≡ []) × (count ≡ length steps)
Tail kept steps (Over server (Broken place) count) more = (count ≡ length steps + 1) × ((status : ℕ) × (more ≡ check_bytes status))
Tail kept steps (Over server Budget count) more = (more ≡ []) × (count ≡ length steps)
Tail kept steps (Over server ReadFault count) more = (more ≡ []) × (count ≡ length steps)
Tail kept steps (Over server Memory count) more = (more ≡ []) × (count ≡ length steps)
Tail kept steps (Over server WriteFault count) more = (count ≡ length steps)
    × ((answer : List ℕ) × (n : ℕ) × IsDue (after_all kept steps).rows answer × (n < length answer) × (more ≡ take n answer))
Tail kept steps (IsBroken disk) more = more ≡ []

-- The answers of the messages, in order, and behind them part of one answer, a check's answer or nothing.
pub record HasGained {S D : Type 0} (kept : Kept) (held now_held : Option (List ℕ)) (result : Session S D) : Type 0 where
  pub steps : List Step
  pub more : List ℕ
  pub are : AreSteps kept steps
  pub tail : Tail kept steps result more
  pub gained : Appends held now_held (answers_of steps ++ more)
