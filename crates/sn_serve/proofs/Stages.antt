-- How serving ends, by how its stages do.
use Rattle.std.proofs.Common.{◌≡◌, inl, inr, ℕ, List, [], ◌∷◌, ◌++◌, Option}
use Rattle.rand_chacha.specs.ChaCha.{ChaCha}
use Rattle.sn_disk.specs.Disk.{LeavesOnly}
use Rattle.sn_disk.specs.Shelf.{Slot}
use Rattle.sn_disk.specs.declared.disk.Disk.{Ghosts}
use Rattle.sn_io.specs.Causes.{Rose}
use Rattle.sn_net.specs.Connections.{Event, Going}
use Rattle.sn_server.specs.Loads.{IsServerError, StaysRefused, secret_of}
use Rattle.sn_server.specs.declared.error.ServerError.{ServerError}
use Rattle.sn_server.specs.declared.error.ServerError.TheVariants as load
use Rattle.sn_server.specs.declared.server.Server.{Server}
use Rattle.sn_server.specs.declared.serving.Session.{Session}
use Rattle.sn_serve.specs.Hosting.{HostEnds, Rests, EndsIn, IsBroken, IsWanting}
use Rattle.sn_serve.specs.Listening.{Outside, Hosts, ListenEnds, DiskEnds, LoadsFrom, served_so}
use Rattle.sn_serve.specs.Refusals.{served_of}
use Rattle.sn_serve.specs.Serving.{Handed, HasServed, ServeEnds}
use Rattle.sn_serve.specs.Visits.{Stand, events_of}
use Rattle.sn_serve.specs.declared.ends.HostEnd.{HostEnd}
use Rattle.sn_serve.specs.declared.ends.HostEnd.TheVariants as host
use Rattle.sn_serve.specs.declared.ends.Served.{Served}
use Rattle.sn_serve.specs.declared.ends.Served.TheVariants.{Reached, DiskFault, PortFault, WriteFault, Foreign, Damaged, Rows, Memory}

module _ {D P : Type 0} {g : Ghosts D} (goes : P → P → List Event → Type 0) (law : Going P goes) (p q r : P) (none : goes p q []) (from : Stand D g) (given : Option (List ℕ)) where
  rests_behind : (to : Stand D g) (disk : D) → Rests (goes q r) from given to disk → Rests (goes p r) from given to disk
  rests_behind to disk rests = record {
    visits = rests.visits;
    are = rests.are;
    counted = rests.counted;
    seen = law.more p q r [] (events_of rests.visits) none rests.seen;
    clock = rests.clock;
    back = rests.back;
  }

  ends_behind : (how : Session (Server D g) D → Type 0) (disk : D) → EndsIn (goes q r) from given how disk → EndsIn (goes p r) from given how disk
  ends_behind how disk ends = record {
    visits = ends.visits;
    to = ends.to;
    are = ends.are;
    last = ends.last;
    is = ends.is;
    broke = ends.broke;
    seen = law.more p q r [] (events_of (ends.visits ++ ends.last ∷ [])) none ends.seen;
    clock = ends.clock;
    back = ends.back;
  }

  -- connections behind a call at which none came
  pub behind_none : (disk : D) (end : HostEnd) → HostEnds (goes q r) from given disk end → HostEnds (goes p r) from given disk end
  behind_none disk host.Reached ends = (ends.0, rests_behind ends.0 disk ends.1, ends.2)
  behind_none disk host.PortFault ends = (ends.0, rests_behind ends.0 disk ends.1, ends.2)
  behind_none disk host.DiskFault ends = ends_behind IsBroken disk ends
  behind_none disk host.Memory ends = ends_behind IsWanting disk ends

module _ {D P O C : Type 0} (g : Ghosts D) (goes : P → P → List Event → Type 0) (bound : P → ℕ) (held : O → Option (List ℕ)) (given : C → Option (List ℕ))
    (number requests : ℕ) (old new : Outside P O C) where
  -- a server that listened ends as its connections did
  pub hosted : (server : Server D g) (disk : D) (end : HostEnd) → Hosts g goes bound held given number requests old new server disk end
      → ListenEnds g goes bound held given number requests old new server disk (served_so end)
  hosted server disk host.Reached hosts = hosts
  hosted server disk host.PortFault hosts = inr hosts
  hosted server disk host.DiskFault hosts = hosts
  hosted server disk host.Memory hosts = inr hosts

  -- a disk that was loads ends as its server did
  pub listened : (disk : D) (words rest : ChaCha) (server : Server D g) (back : D) (served : Served) → LoadsFrom g disk words rest server
      → ListenEnds g goes bound held given number requests old new server back served → DiskEnds g goes bound held given number requests old new disk words back served
  listened disk words rest server back Reached loads ends = record { server = server; words_left = rest; loads = loads; ends = ends }
  listened disk words rest server back DiskFault loads ends = inr (record { server = server; words_left = rest; loads = loads; ends = ends })
  listened disk words rest server back PortFault loads ends = record { server = server; words_left = rest; loads = loads; ends = ends }
  listened disk words rest server back WriteFault loads ends = record { server = server; words_left = rest; loads = loads; ends = ends }
  listened disk words rest server back (Foreign place) loads ends = absurd ends
  listened disk words rest server back (Damaged place) loads ends = absurd ends
  listened disk words rest server back (Rows kind) loads ends = absurd ends
  listened disk words rest server back Memory loads ends = inr (record { server = server; words_left = rest; loads = loads; ends = ends })

  -- one that wasn't, by the error
  pub unloaded : (disk : D) (words : ChaCha) (back : D) (error : ServerError) → IsServerError g.told (g.seen disk) (g.fault_count disk) (g.fault_count back) error
      → (g.told → LeavesOnly g.moment g.left_since disk back (StaysRefused error (g.may_leave disk) (g.seen disk) (secret_of words))) → new ≡ old
      → DiskEnds g goes bound held given number requests old new disk words back (served_of error)
  unloaded disk words back (load.Foreign place) cause stays same = record { cause = cause; stays = stays; untouched = same }
  unloaded disk words back (load.Damaged place) cause stays same = record { cause = cause; stays = stays; untouched = same }
  unloaded disk words back (load.Rows kind) cause stays same = record { cause = cause; stays = stays; untouched = same }
  unloaded disk words back load.DiskFault cause stays same = inl (record { cause = cause; stays = stays; untouched = same })
  unloaded disk words back load.Memory cause stays same = inl (record { cause = cause; stays = stays; untouched = same })

module _ {S D P O C R : Type 0} (g : Ghosts D) (told : Type 0) (slot : S → List ℕ → Slot D) (shelf_faults : S → ℕ)
    (goes : P → P → List Event → Type 0) (bound : P → ℕ) (held : O → Option (List ℕ)) (given : C → Option (List ℕ)) (drawn : R → Option (List (List ℕ)))
    (name : List ℕ) (number requests : ℕ) (old new : Handed S P O C R) where
  -- where the shelf gave a disk, serving ends as that was served
  pub ended : (served : Served) → HasServed g told slot shelf_faults goes bound held given drawn name number requests old new served
      → ServeEnds g told slot shelf_faults goes bound held given drawn name number requests old new served
  ended Reached has = has
  ended DiskFault has = inr has
  ended PortFault has = has
  ended WriteFault has = has
  ended (Foreign place) has = has
  ended (Damaged place) has = has
  ended (Rows kind) has = has
  ended Memory has = has

-- a fault of the disk has its cause
pub faulted : (told : Type 0) (file : List ℕ) (before after : ℕ) (error : ServerError) → IsServerError told file before after error → served_of error ≡ DiskFault → Rose before after
faulted told file before after (load.Foreign place) cause is = absurd cc
faulted told file before after (load.Damaged place) cause is = absurd cc
faulted told file before after (load.Rows kind) cause is = absurd cc
faulted told file before after load.DiskFault cause is = cause
faulted told file before after load.Memory cause is = absurd cc
