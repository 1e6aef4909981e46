-- Both ends as one world: the rows of the server, those of each device, and the requests that were ever made.
use Rattle.std.specs.Prelude.{◌≡◌, ◌≢◌, List, [], Option}
use Rattle.sn_laws.specs.Each.{One}
use Rattle.sn_laws.specs.Lookups.{Bytes}
use Rattle.sn_rows.specs.Table.{Rows, no_rows, rows_after}
use Rattle.sn_rows.specs.declared.change.Change.{Change}
use Rattle.sn_string.specs.declared.params.KeySet.{KeySet}
use Rattle.sn_sync.specs.declared.request.Request.{Request}

-- a request that a device made, and the key set that it would begin
pub record Made : Type 0 where
  pub device : Bytes
  pub request : Request
  pub begins : Option KeySet

-- a device goes by its name; one that has begun nothing has no rows
pub record World : Type 0 where
  pub server : Rows
  pub devices : Bytes → Rows
  pub made : List Made

-- before anything happened
abbrev pub at_first : World
at_first = record { server = no_rows; devices = λ name. no_rows; made = [] }

-- the request was made
abbrev pub IsMade : World → Made → Type 0
IsMade w m = One (λ x. x ≡ m) w.made

-- a commit of the server: its rows are these, and all else stays
pub record OnServer (w next : World) (changes : List Change) : Type 0 where
  pub server : next.server ≡ rows_after w.server changes
  pub devices : next.devices ≡ w.devices
  pub made : next.made ≡ w.made

-- a commit of a device: its rows are these, and all else stays
pub record OnDevice (w next : World) (name : Bytes) (changes : List Change) : Type 0 where
  pub server : next.server ≡ w.server
  pub own : next.devices name ≡ rows_after (w.devices name) changes
  pub others : (other : Bytes) → other ≢ name → next.devices other ≡ w.devices other
  pub made : next.made ≡ w.made
