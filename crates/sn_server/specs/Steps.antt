-- The messages that a session served, one after another.
use Rattle.std.specs.Prelude.{◌≡◌, ℕ, ◌+◌, ◌-◌, ◌^◌, ◌≤◌, min, List, [], ◌∷◌, length, map, false, ⊤}
use Rattle.std.specs.declared.option.Option.{Option}
use Rattle.std.specs.List.{flat_map}
use Rattle.std.specs.Io.KnownBytes.{Appends, Consumes}
use Rattle.sn_io.specs.Streams.{Gains}
use Rattle.sn_http.specs.Messages.{IsMessage}
use Rattle.sn_http.specs.declared.message.Message.{Message}
use Rattle.sn_rows.specs.Table.{Rows}
use Rattle.sn_rows.specs.declared.change.Change.{Change}
use Rattle.sn_server.specs.Replies.{Replies, reply_bytes}
use Rattle.sn_server.specs.Stores.{Kept, after}
use Rattle.sn_server.specs.declared.reply.Reply.{Reply}

-- these moments were given, one after another
abbrev pub GainsEach : Option (List ℕ) → Option (List ℕ) → List ℕ → Type 0
GainsEach before now [] = before ≡ now
GainsEach before now (moment ∷ moments) = (mid : Option (List ℕ)) × Gains before mid moment × GainsEach mid now moments

-- a message that was served: its bytes, the moment, what it changed, and the reply
pub record Step : Type 0 where
  pub bytes : List ℕ
  pub message : Message
  pub now : ℕ
  pub made : List Change
  pub reply : Reply

abbrev pub step_bytes : Step → List ℕ
step_bytes step = step.bytes

abbrev pub step_answer : Step → List ℕ
step_answer step = reply_bytes step.reply

abbrev pub step_now : Step → ℕ
step_now step = step.now

abbrev pub bytes_of : List Step → List ℕ
bytes_of steps = flat_map step_bytes steps

abbrev pub answers_of : List Step → List ℕ
answers_of steps = flat_map step_answer steps

-- by the rule, on the rows that stood before it
pub record IsStep (rows : Rows) (step : Step) : Type 0 where
  pub message : IsMessage step.bytes step.message
  pub rule : Replies rows step.message step.now step.made step.reply

-- each on what those before it left
abbrev pub AreSteps : Kept → List Step → Type 0
AreSteps kept [] = ⊤
AreSteps kept (step ∷ steps) = IsStep kept.rows step × AreSteps (after kept step.made) steps

-- what is kept after them
abbrev pub after_all : Kept → List Step → Kept
after_all kept [] = kept
after_all kept (step ∷ steps) = after_all (after kept step.made) steps

-- none of them is the last of its connection
abbrev pub AreGoing : List Step → Type 0
AreGoing [] = ⊤
AreGoing (step ∷ steps) = (step.message.closing ≡ false) × AreGoing steps

-- the place behind these messages, where the first of them begins at this one; it stands still at the end of its type
abbrev pub place_after : ℕ → List Step → ℕ
place_after place [] = place
place_after place (step ∷ steps) = place_after (min (place + length step.bytes) (2 ^ 64 - 1)) steps

-- What a connection and the clock tell at a moment, how many bytes were taken of the connection, and the counts of
-- its faults.
pub record World : Type 0 where
  pub left : Option (List ℕ)
  pub held : Option (List ℕ)
  pub given : Option (List ℕ)
  pub place : ℕ
  pub reads : ℕ
  pub writes : ℕ

abbrev pub world : Option (List ℕ) → Option (List ℕ) → Option (List ℕ) → ℕ → ℕ → ℕ → World
world left held given place reads writes = record { left = left; held = held; given = given; place = place; reads = reads; writes = writes }

-- the messages were taken from the front of the input, ruled, and answered in order, each at a moment that the clock gave
pub record Serves (kept : Kept) (steps : List Step) (a b : World) : Type 0 where
  pub are : AreSteps kept steps
  pub taken : Consumes a.left b.left (bytes_of steps)
  pub written : Appends a.held b.held (answers_of steps)
  pub clock : GainsEach a.given b.given (map step_now steps)
  pub place : b.place ≡ place_after a.place steps
  pub reads : a.reads ≤ b.reads
  pub writes : a.writes ≤ b.writes
