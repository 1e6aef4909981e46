-- Serving the store of a name, by what was handed in.
use Rattle.std.specs.Prelude.{◌≡◌, ◌≢◌, ◌⊎◌, ℕ, List}
use Rattle.std.specs.declared.option.Option.{Option}
use Rattle.rand_chacha.specs.ChaCha.{of_seed}
use Rattle.sn_disk.specs.Shelf.{Slot, holds}
use Rattle.sn_disk.specs.declared.disk.Disk.{Ghosts}
use Rattle.sn_io.specs.Causes.{Rose}
use Rattle.sn_io.specs.Streams.{Gains}
use Rattle.sn_net.specs.Connections.{Event}
use Rattle.sn_rows.specs.declared.change.Change.{Change}
use Rattle.sn_server.specs.Loads.{kept_of, secret_of}
use Rattle.sn_serve.specs.Listening.{Outside, outside, DiskEnds}
use Rattle.sn_serve.specs.Standing.{DiskStands, EachStands}
use Rattle.sn_serve.specs.declared.ends.Served.{Served}
use Rattle.sn_serve.specs.declared.ends.Served.TheVariants.{Reached, DiskFault, PortFault, WriteFault, Foreign, Damaged, Rows, Memory}

-- all that serving is handed
pub record Handed (S P O C R : Type 0) : Type 0 where
  pub shelf : S
  pub port : P
  pub out : O
  pub clock : C
  pub seeds : R

abbrev pub handed : {S P O C R : Type 0} → S → P → O → C → R → Handed S P O C R
handed shelf port out clock seeds = record { shelf = shelf; port = port; out = out; clock = clock; seeds = seeds }

abbrev pub outside_in : {S P O C R : Type 0} → Handed S P O C R → Outside P O C
outside_in all = outside all.port all.out all.clock

module _ {S D P O C R : Type 0} (g : Ghosts D) (told : Type 0) (slot : S → List ℕ → Slot D) (shelf_faults : S → ℕ)
    (goes : P → P → List Event → Type 0) (bound : P → ℕ) (held : O → Option (List ℕ)) (given : C → Option (List ℕ)) (drawn : R → Option (List (List ℕ)))
    (name : List ℕ) (number requests : ℕ) (old new : Handed S P O C R) where
  -- the shelf gave no disk, and all else is as it was
  pub record HasNoDisk : Type 0 where
    pub rose : Rose (shelf_faults old.shelf) (shelf_faults new.shelf)
    pub stays : told → slot new.shelf name ≡ slot old.shelf name
    pub others : told → (other : List ℕ) → other ≢ name → slot new.shelf other ≡ slot old.shelf other
    pub undrawn : new.seeds ≡ old.seeds
    pub untouched : outside_in new ≡ outside_in old

  -- The disk of this name was taken, and given back once serving had ended so. It is the same disk, gone on, and no other
  -- has changed. One seed was drawn. What a crash leaves of the disk then, `stands` says.
  pub record HasServed (served : Served) : Type 0 where
    pub disk : D
    pub back : D
    pub seed : List ℕ
    pub taken : told → slot old.shelf name ≡ holds disk
    pub returned : told → slot new.shelf name ≡ holds back
    pub others : told → (other : List ℕ) → other ≢ name → slot new.shelf other ≡ slot old.shelf other
    pub grows : g.grows disk back
    pub drew : Gains (drawn old.seeds) (drawn new.seeds) seed
    pub ends : DiskEnds g goes bound held given number requests (outside_in old) (outside_in new) disk (of_seed seed) back served
    pub stands : g.told → (batches : List (List Change)) → EachStands g disk batches → DiskStands g (kept_of batches) (secret_of (of_seed seed)) back served
    pub cause : served ≡ DiskFault → Rose (g.fault_count disk) (g.fault_count back)

  -- how serving ends
  abbrev pub ServeEnds : Served → Type 0
  ServeEnds Reached = HasServed Reached
  ServeEnds DiskFault = HasNoDisk ⊎ HasServed DiskFault
  ServeEnds PortFault = HasServed PortFault
  ServeEnds WriteFault = HasServed WriteFault
  ServeEnds (Foreign place) = HasServed (Foreign place)
  ServeEnds (Damaged place) = HasServed (Damaged place)
  ServeEnds (Rows kind) = HasServed (Rows kind)
  ServeEnds Memory = HasServed Memory
