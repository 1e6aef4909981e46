-- How connections end that are served one after another.
use Rattle.std.specs.Prelude.{◌≡◌, ℕ, ◌+◌, ◌<◌, List, [], ◌∷◌, ◌++◌, ⊤}
use Rattle.std.specs.declared.option.Option.{Option}
use Rattle.sn_disk.specs.declared.disk.Disk.{Ghosts}
use Rattle.sn_net.specs.Connections.{Event}
use Rattle.sn_server.specs.Outcomes.{session_disk}
use Rattle.sn_server.specs.Stores.{server_disk}
use Rattle.sn_server.specs.declared.serving.Ended.TheVariants as how
use Rattle.sn_server.specs.declared.server.Server.{Server}
use Rattle.sn_server.specs.declared.serving.Session.{Session}
use Rattle.sn_server.specs.declared.serving.Session.TheVariants.{Over, Broken}
use Rattle.sn_serve.specs.Visits.{Stand, Visit, IsVisit, Leaves, AreVisits, events_in, events_of, counted_in, stand}
use Rattle.sn_serve.specs.declared.ends.HostEnd.{HostEnd}
use Rattle.sn_serve.specs.declared.ends.HostEnd.TheVariants.{Reached, PortFault, DiskFault, Memory}
use Rattle.sn_serve.specs.declared.hosting.One.{One}
use Rattle.sn_serve.specs.declared.hosting.One.TheVariants.{Served, NoConnection, Wanting, Lost}

module _ {D : Type 0} {g : Ghosts D} where
  abbrev pub one_disk : One D g → D
  one_disk (Served server left) = server_disk server
  one_disk (NoConnection server) = server_disk server
  one_disk (Wanting disk) = disk
  one_disk (Lost disk) = disk

  abbrev pub IsNoConnection : One D g → Type 0
  IsNoConnection (Served server left) = ⊥
  IsNoConnection (NoConnection server) = ⊤
  IsNoConnection (Wanting disk) = ⊥
  IsNoConnection (Lost disk) = ⊥

  abbrev pub IfServed : One D g → (Server D g → Type 0) → Type 0
  IfServed (Served server left) P = P server
  IfServed (NoConnection server) P = ⊤
  IfServed (Wanting disk) P = ⊤
  IfServed (Lost disk) P = ⊤

  abbrev pub IfLost : One D g → (D → Type 0) → Type 0
  IfLost (Served server left) P = ⊤
  IfLost (NoConnection server) P = ⊤
  IfLost (Wanting disk) P = ⊤
  IfLost (Lost disk) P = P disk

  -- the session was over for want of memory
  abbrev pub IsWanting : Session (Server D g) D → Type 0
  IsWanting session = (server : Server D g) × (count : ℕ) × (session ≡ Over server how.Memory count)

  -- the disk failed within the session
  abbrev pub IsBroken : Session (Server D g) D → Type 0
  IsBroken session = (disk : D) × (session ≡ Broken disk)

module _ {D : Type 0} {g : Ghosts D} (goes : List Event → Type 0) (from : Stand D g) (given : Option (List ℕ)) where
  -- a connection came, its session ended so, and with it all
  pub record BreaksOff (session : Session (Server D g) D → Type 0) (disk : D) : Type 0 where
    pub visit : Visit D g
    pub is : IsVisit from visit
    pub broke : session visit.session
    pub seen : goes (events_in visit)
    pub clock : given ≡ visit.after.given
    pub back : disk ≡ session_disk server_disk visit.session

  -- how one connection ends
  abbrev pub OneEnds : One D g → Type 0
  OneEnds (Served server left) = (v : Visit D g) × IsVisit from v × Leaves v (stand server given left) × goes (events_in v)
  OneEnds (NoConnection server) = (server ≡ from.server) × (given ≡ from.given) × goes []
  OneEnds (Wanting disk) = BreaksOff IsWanting disk
  OneEnds (Lost disk) = BreaksOff IsBroken disk

  -- these were served, and none is under way
  pub record Rests (to : Stand D g) (disk : D) : Type 0 where
    pub visits : List (Visit D g)
    pub are : AreVisits from visits to
    pub counted : to.left + counted_in visits ≡ from.left
    pub seen : goes (events_of visits)
    pub clock : given ≡ to.given
    pub back : disk ≡ server_disk to.server

  -- these were served, and one more came whose session ended so, and with it all
  pub record EndsIn (session : Session (Server D g) D → Type 0) (disk : D) : Type 0 where
    pub visits : List (Visit D g)
    pub to : Stand D g
    pub are : AreVisits from visits to
    pub last : Visit D g
    pub is : IsVisit to last
    pub broke : session last.session
    pub seen : goes (events_of (visits ++ last ∷ []))
    pub clock : given ≡ last.after.given
    pub back : disk ≡ session_disk server_disk last.session

  -- how all end: at `Reached` they count for just the requests, at `PortFault` for fewer
  abbrev pub HostEnds : D → HostEnd → Type 0
  HostEnds disk Reached = (to : Stand D g) × Rests to disk × (to.left ≡ 0)
  HostEnds disk PortFault = (to : Stand D g) × Rests to disk × (0 < to.left)
  HostEnds disk DiskFault = EndsIn IsBroken disk
  HostEnds disk Memory = EndsIn IsWanting disk
