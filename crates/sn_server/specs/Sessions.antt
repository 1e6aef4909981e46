-- How one message ends, and how a session does.
use Rattle.std.specs.Prelude.{◌≡◌, ◌⊎◌, ℕ, ◌+◌, true, List, [], ◌∷◌, length}
use Rattle.std.specs.Io.KnownBytes.{Appends, Consumes}
use Rattle.sn_io.specs.Causes.{Rose}
use Rattle.sn_io.specs.Streams.{Gains, TakesPart}
use Rattle.sn_http.specs.Messages.{IsMessage, IsCheck, OfTold}
use Rattle.sn_http.specs.declared.message.Message.{Message}
use Rattle.sn_rows.specs.declared.change.Change.{Change}
use Rattle.sn_server.specs.CheckBodies.{check_bytes}
use Rattle.sn_server.specs.Replies.{Replies, RepliesByRule, reply_bytes}
use Rattle.sn_server.specs.Stores.{Kept, after}
use Rattle.sn_server.specs.Steps.{Step, World, Serves, AreGoing, after_all}
use Rattle.sn_server.specs.declared.reply.Reply.{Reply}
use Rattle.sn_server.specs.declared.serving.Ended.TheVariants.{End, Broken, Budget, ReadFault, WriteFault, Memory}
use Rattle.sn_server.specs.declared.serving.One.{One}
use Rattle.sn_server.specs.declared.serving.One.TheVariants.{Served, Checked, Over, Lost}
use Rattle.sn_server.specs.declared.serving.Session.{Session}
use Rattle.sn_server.specs.declared.serving.Session.TheVariants.{Over as IsOver, Broken as IsBroken}

-- the message at the front of what is left
pub record Reads (a b : World) (message : Message) : Type 0 where
  pub bytes : List ℕ
  pub is : IsMessage bytes message
  pub taken : Consumes a.left b.left bytes

module _ {S D : Type 0} (is_open : S → Kept → Type 0) (may_have : D → Kept → List Change → Type 0) (kept : Kept) where
  -- the commit stands, and a part of the reply alone was written
  pub record IsCut (message : Message) (a b : World) (server : S) : Type 0 where
    pub now : ℕ
    pub made : List Change
    pub reply : Reply
    pub rule : Replies kept.rows message now made reply
    pub stands : is_open server (after kept made)
    pub part : TakesPart a.held b.held (reply_bytes reply)
    pub clock : Gains a.given b.given now

  -- the disk failed in the commit, and nothing of the reply was written
  pub record IsLost (message : Message) (a b : World) (disk : D) : Type 0 where
    pub now : ℕ
    pub made : List Change
    pub reply : Reply
    pub rule : RepliesByRule kept.rows message now made reply
    pub either : may_have disk kept made
    pub silent : Appends a.held b.held []
    pub clock : Gains a.given b.given now

  -- nothing was written, and the server and the clock are as they were
  pub record Idles (a b : World) (server : S) : Type 0 where
    pub silent : Appends a.held b.held []
    pub clock : b.given ≡ a.given
    pub stands : is_open server kept

  -- a check fails of what is left
  pub record Fails (a b : World) (server : S) (status : ℕ) : Type 0 where
    pub check : OfTold a.left (IsCheck status)
    pub clock : b.given ≡ a.given
    pub stands : is_open server kept

  -- how reading and serving one message ends
  abbrev pub OneEnds : World → World → One S D → Type 0
  OneEnds a b (Served server closing) = (step : Step) × Serves kept (step ∷ []) a b × is_open server (after kept step.made) × (closing ≡ step.message.closing)
  OneEnds a b (Checked server place) = (status : ℕ) × Fails a b server status × Appends a.held b.held (check_bytes status) × (place ≡ a.place)
  OneEnds a b (Over server End) = OfTold a.left (λ input. input ≡ []) × Idles a b server
  OneEnds a b (Over server (Broken place)) = ⊥
  OneEnds a b (Over server Budget) = ⊥
  OneEnds a b (Over server ReadFault) = Rose a.reads b.reads × Idles a b server
  OneEnds a b (Over server Memory) = Idles a b server
  OneEnds a b (Over server WriteFault) = Rose a.writes b.writes
      × (((message : Message) × Reads a b message × IsCut message a b server)
      ⊎ ((status : ℕ) × Fails a b server status × TakesPart a.held b.held (check_bytes status)))
  OneEnds a b (Lost disk) = (message : Message) × Reads a b message × IsLost message a b disk

-- the messages that were served, none of them the last of its connection, up to a moment
pub record HasRun (kept : Kept) (steps : List Step) (a b : World) : Type 0 where
  pub serves : Serves kept steps a b
  pub going : AreGoing steps

module _ {S D : Type 0} (is_open : S → Kept → Type 0) (may_have : D → Kept → List Change → Type 0) (kept : Kept) (budget : ℕ) (before : World) where
  -- some messages were served, and then one more, or a check, ended so, with so many answers of these written whole
  pub record EndsIn (steps : List Step) (mid now : World) (one : One S D) : Type 0 where
    pub run : HasRun kept steps before mid
    pub ends : OneEnds is_open may_have (after_all kept steps) mid now one

  -- After messages that were served the session ends: by one more message, a failing check, or the budget. The
  -- number is that of the answers written whole.
  abbrev pub SessionEnds : World → Session S D → Type 0
  SessionEnds now (IsOver server Budget count) = (steps : List Step)
      × HasRun kept steps before now × (count ≡ length steps) × (count ≡ budget) × is_open server (after_all kept steps)
  SessionEnds now (IsOver server End count) = (mid : World) × (steps : List Step)
      × (((count ≡ length steps) × EndsIn steps mid now (Over server End)) ⊎ ((count ≡ length steps + 1) × EndsIn steps mid now (Served server true)))
  SessionEnds now (IsOver server (Broken place) count) = (mid : World) × (steps : List Step) × (count ≡ length steps + 1) × EndsIn steps mid now (Checked server place)
  SessionEnds now (IsOver server ReadFault count) = (mid : World) × (steps : List Step) × (count ≡ length steps) × EndsIn steps mid now (Over server ReadFault)
  SessionEnds now (IsOver server WriteFault count) = (mid : World) × (steps : List Step) × (count ≡ length steps) × EndsIn steps mid now (Over server WriteFault)
  SessionEnds now (IsOver server Memory count) = (mid : World) × (steps : List Step) × (count ≡ length steps) × EndsIn steps mid now (Over server Memory)
  SessionEnds now (IsBroken disk) = (mid : World) × (steps : List Step) × EndsIn steps mid now (Lost disk)
