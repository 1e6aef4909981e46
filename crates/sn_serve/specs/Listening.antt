-- A server at its port: how loading and serving end.
use Rattle.std.specs.Prelude.{◌≡◌, ◌≢◌, ◌⊎◌, ℕ, List, [], ◌∷◌, ◌++◌, codes}
use Rattle.std.specs.declared.option.Option.{Option}
use Rattle.std.specs.Fmt.{decimal}
use Rattle.std.specs.Io.KnownBytes.{Appends}
use Rattle.rand_chacha.specs.ChaCha.{ChaCha}
use Rattle.sn_account.specs.Sound.{IsSound}
use Rattle.sn_disk.specs.Disk.{LeavesOnly}
use Rattle.sn_disk.specs.declared.disk.Disk.{Ghosts}
use Rattle.sn_io.specs.Streams.{TakesPart}
use Rattle.sn_journal.specs.declared.owner.Owner.TheVariants.{Server as ServerOwner}
use Rattle.sn_net.specs.Connections.{Event}
use Rattle.sn_rows.specs.declared.change.Change.{Change}
use Rattle.sn_server.specs.Loads.{IsLoaded, IsServerError, Opens, StaysRefused, kept_of, secret_of}
use Rattle.sn_server.specs.Stores.{IsOpen, server_disk, server_rows}
use Rattle.sn_server.specs.declared.error.ServerError.{ServerError}
use Rattle.sn_server.specs.declared.error.ServerError.TheVariants as load
use Rattle.sn_server.specs.declared.server.Server.{Server}
use Rattle.sn_table.specs.Batches.{IsAllOrNothing, IsStore}
use Rattle.sn_serve.specs.Hosting.{HostEnds}
use Rattle.sn_serve.specs.Visits.{stand}
use Rattle.sn_serve.specs.declared.ends.HostEnd.{HostEnd}
use Rattle.sn_serve.specs.declared.ends.HostEnd.TheVariants as host
use Rattle.sn_serve.specs.declared.ends.Served.{Served}
use Rattle.sn_serve.specs.declared.ends.Served.TheVariants.{Reached, DiskFault, PortFault, WriteFault, Foreign, Damaged, Rows, Memory}

-- the line that tells a port's number
abbrev pub listening_line : ℕ → List ℕ
listening_line number = codes "listening " ++ (decimal number ++ 10 ∷ [])

abbrev pub served_so : HostEnd → Served
served_so host.Reached = Reached
served_so host.PortFault = PortFault
served_so host.DiskFault = DiskFault
served_so host.Memory = Memory

-- The server was loaded from this disk, with the words for what it draws: with what its bytes stand for, and with the batches
-- that each crash might have left of it, of which it may have a last one whole or not at all. Its rows are sound, also where
-- the disk tells nothing.
pub record LoadsFrom {D : Type 0} (g : Ghosts D) (disk : D) (words words_left : ChaCha) (server : Server D g) : Type 0 where
  pub sound : IsSound (server_rows server)
  pub loaded : g.told → IsLoaded {S = Server D g} IsOpen (g.seen disk) words words_left server
  pub same : g.told → (batches : List (List Change)) → ((c : List ℕ) → g.may_leave disk c → IsStore ServerOwner c batches)
      → Opens {S = Server D g} IsOpen (kept_of batches) words words_left server
  pub either : g.told → (batches : List (List Change)) (changes : List Change) → ((c : List ℕ) → g.may_leave disk c → IsAllOrNothing ServerOwner batches changes c)
      → Opens {S = Server D g} IsOpen (kept_of batches) words words_left server ⊎ Opens {S = Server D g} IsOpen (kept_of (batches ++ changes ∷ [])) words words_left server

-- what a server is handed beside its disk
pub record Outside (P O C : Type 0) : Type 0 where
  pub port : P
  pub out : O
  pub clock : C

abbrev pub outside : {P O C : Type 0} → P → O → C → Outside P O C
outside port out clock = record { port = port; out = out; clock = clock }

module _ {D P O C : Type 0} (g : Ghosts D) (goes : P → P → List Event → Type 0) (bound : P → ℕ) (held : O → Option (List ℕ)) (given : C → Option (List ℕ))
    (number requests : ℕ) (old new : Outside P O C) where
  -- the port has the number that was asked for, at 0 any
  abbrev pub Binds : Type 0
  Binds = number ≢ 0 → bound new.port ≡ number

  -- no connection came, the clock wasn't asked, and the server's disk is as it was
  pub record Idles (server : Server D g) (disk : D) : Type 0 where
    pub seen : goes old.port new.port []
    pub clock : new.clock ≡ old.clock
    pub back : disk ≡ server_disk server

  -- the port couldn't be bound, and nothing was written
  pub record IsUnbound (server : Server D g) (disk : D) : Type 0 where
    pub unwritten : new.out ≡ old.out
    pub idles : Idles server disk

  -- it was bound; a front of the line was written and not all of it
  pub record IsUntold (server : Server D g) (disk : D) : Type 0 where
    pub binds : Binds
    pub part : TakesPart (held old.out) (held new.out) (listening_line (bound new.port))
    pub idles : Idles server disk

  -- it was bound, and nothing was written
  pub record IsUnwritten (server : Server D g) (disk : D) : Type 0 where
    pub binds : Binds
    pub unwritten : new.out ≡ old.out
    pub idles : Idles server disk

  -- it was bound, its line was written, and connections came
  pub record Hosts (server : Server D g) (disk : D) (end : HostEnd) : Type 0 where
    pub binds : Binds
    pub told : Appends (held old.out) (held new.out) (listening_line (bound new.port))
    pub ends : HostEnds (goes old.port new.port) (stand server (given old.clock) requests) (given new.clock) disk end

  -- how a loaded server ends
  abbrev pub ListenEnds : Server D g → D → Served → Type 0
  ListenEnds server disk Reached = Hosts server disk host.Reached
  ListenEnds server disk DiskFault = Hosts server disk host.DiskFault
  ListenEnds server disk PortFault = IsUnbound server disk ⊎ Hosts server disk host.PortFault
  ListenEnds server disk WriteFault = IsUntold server disk
  ListenEnds server disk (Foreign place) = ⊥
  ListenEnds server disk (Damaged place) = ⊥
  ListenEnds server disk (Rows kind) = ⊥
  ListenEnds server disk Memory = IsUnwritten server disk ⊎ Hosts server disk host.Memory

  -- The disk has no store that loads, for this cause. It isn't written over (`StaysRefused`), and all else is as it was.
  pub record IsUnloaded (disk : D) (words : ChaCha) (back : D) (error : ServerError) : Type 0 where
    pub cause : IsServerError g.told (g.seen disk) (g.fault_count disk) (g.fault_count back) error
    pub stays : g.told → LeavesOnly g.moment g.left_since disk back (StaysRefused error (g.may_leave disk) (g.seen disk) (secret_of words))
    pub untouched : new ≡ old

  -- the disk's server was loaded, and ended so
  pub record IsServed (disk : D) (words : ChaCha) (back : D) (served : Served) : Type 0 where
    pub server : Server D g
    pub words_left : ChaCha
    pub loads : LoadsFrom g disk words words_left server
    pub ends : ListenEnds server back served

  -- how serving a disk ends
  abbrev pub DiskEnds : D → ChaCha → D → Served → Type 0
  DiskEnds disk words back Reached = IsServed disk words back Reached
  DiskEnds disk words back DiskFault = IsUnloaded disk words back load.DiskFault ⊎ IsServed disk words back DiskFault
  DiskEnds disk words back PortFault = IsServed disk words back PortFault
  DiskEnds disk words back WriteFault = IsServed disk words back WriteFault
  DiskEnds disk words back (Foreign place) = IsUnloaded disk words back (load.Foreign place)
  DiskEnds disk words back (Damaged place) = IsUnloaded disk words back (load.Damaged place)
  DiskEnds disk words back (Rows kind) = IsUnloaded disk words back (load.Rows kind)
  DiskEnds disk words back Memory = IsUnloaded disk words back load.Memory ⊎ IsServed disk words back Memory
