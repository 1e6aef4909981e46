-- Connections that come to a server one after another, and how many requests each counts for.
use Rattle.std.specs.Prelude.{◌≡◌, ◌≢◌, ℕ, ◌+◌, ◌<◌, max, List, [], ◌∷◌}
use Rattle.std.specs.declared.option.Option.{Option}
use Rattle.std.specs.List.{flat_map}
use Rattle.sn_disk.specs.declared.disk.Disk.{Ghosts}
use Rattle.sn_net.specs.Connections.{Ends, Event, accepted, ended}
use Rattle.sn_server.specs.Outcomes.{count_of}
use Rattle.sn_server.specs.Sessions.{SessionEnds}
use Rattle.sn_server.specs.Steps.{world}
use Rattle.sn_server.specs.Stores.{Kept, IsOpen, MayHave}
use Rattle.sn_server.specs.declared.serving.Ended.{Ended}
use Rattle.sn_server.specs.declared.serving.Ended.TheVariants.{Memory}
use Rattle.sn_server.specs.declared.server.Server.{Server}
use Rattle.sn_server.specs.declared.serving.Session.{Session}
use Rattle.sn_server.specs.declared.serving.Session.TheVariants.{Over}

-- what the ends of a connection and the clock tell at a moment, and the counts of the ends' faults
pub record Moment : Type 0 where
  pub left : Option (List ℕ)
  pub held : Option (List ℕ)
  pub given : Option (List ℕ)
  pub reads : ℕ
  pub writes : ℕ

abbrev pub moment : Option (List ℕ) → Option (List ℕ) → Option (List ℕ) → ℕ → ℕ → Moment
moment left held given reads writes = record { left = left; held = held; given = given; reads = reads; writes = writes }

-- between two connections: the server, what the clock gave, and how many requests are left
pub record Stand (D : Type 0) (g : Ghosts D) : Type 0 where
  pub server : Server D g
  pub given : Option (List ℕ)
  pub left : ℕ

-- a connection: the server that it met, the requests that were left, what its ends and the clock told as it came and as
-- it was given back, and what became of its session
pub record Visit (D : Type 0) (g : Ghosts D) : Type 0 where
  pub server : Server D g
  pub budget : ℕ
  pub before : Moment
  pub after : Moment
  pub session : Session (Server D g) D

abbrev pub ends_at : Moment → Ends
ends_at m = record { left = m.left; held = m.held; reads = m.reads; writes = m.writes }

module _ {D : Type 0} {g : Ghosts D} where
  abbrev pub stand : Server D g → Option (List ℕ) → ℕ → Stand D g
  stand server given left = record { server = server; given = given; left = left }

  -- what the port tells of it: it came, and was given back
  abbrev pub events_in : Visit D g → List Event
  events_in v = accepted (ends_at v.before) ∷ ended (ends_at v.after) ∷ []

  abbrev pub events_of : List (Visit D g) → List Event
  events_of visits = flat_map events_in visits

  -- a connection counts for each answer that was written whole, or for one where there is none
  abbrev pub counts_for : Visit D g → ℕ
  counts_for v = max (count_of v.session) 1

  abbrev pub counted_in : List (Visit D g) → ℕ
  counted_in [] = 0
  counted_in (v ∷ visits) = counts_for v + counted_in visits

  -- What became of a session, as the server says it of all that it may have. What is left then, and the place, are those
  -- of the messages; the source may have been read further.
  abbrev pub IsSession : Server D g → ℕ → Moment → Moment → Session (Server D g) D → Type 0
  IsSession server budget a b session = (kept : Kept) → IsOpen server kept → (place : ℕ) × (left : Option (List ℕ))
      × SessionEnds IsOpen (MayHave g.told g.may_leave) kept budget (world a.left a.held a.given 0 a.reads a.writes)
      (world left b.held b.given place b.reads b.writes) session

  -- it met this server and what was left, and its session is one of the server's
  pub record IsVisit (from : Stand D g) (v : Visit D g) : Type 0 where
    pub server : v.server ≡ from.server
    pub budget : v.budget ≡ from.left
    pub given : v.before.given ≡ from.given
    pub due : 0 < from.left
    pub ends : IsSession v.server v.budget v.before v.after v.session

  -- its session was over, though not for want of memory, and left the server for the next
  pub record Leaves (v : Visit D g) (next : Stand D g) : Type 0 where
    pub how : Ended
    pub count : ℕ
    pub over : v.session ≡ Over next.server how count
    pub fed : how ≢ Memory
    pub rest : next.left + counts_for v ≡ v.budget
    pub given : next.given ≡ v.after.given

  -- the connections, each of which met the server as the one before had left it
  abbrev pub AreVisits : Stand D g → List (Visit D g) → Stand D g → Type 0
  AreVisits from [] to = from ≡ to
  AreVisits from (v ∷ visits) to = IsVisit from v × (next : Stand D g) × Leaves v next × AreVisits next visits to
