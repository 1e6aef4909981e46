-- A server that a link holds.
use Rattle.std.specs.Prelude.{◌≡◌, ℕ, List}
use Rattle.std.specs.declared.option.Option.{Option}
use Rattle.sn_account.specs.Sound.{IsSound}
use Rattle.sn_journal.specs.declared.owner.Owner.TheVariants.{Server as ServerOwner}
use Rattle.sn_link.specs.Deliveries.{serves}
use Rattle.sn_link.specs.Holdings.{HoldsIn}
use Rattle.sn_link.specs.declared.delivery.Held.{Held}
use Rattle.sn_rows.specs.Table.{Rows, rows_of_batches}
use Rattle.sn_rows.specs.declared.change.Change.{Change}
use Rattle.sn_server.specs.Loads.{kept_of}
use Rattle.sn_tail.specs.Places.{place_behind}

-- it is open, the batches that its disk stands for leave these rows, and they are sound; the place is that of the gate behind the batches
pub record ServesRows (held : Option Held) (place : ℕ) (rows : Rows) : Type 0 where
  pub batches : List (List Change)
  pub holds : HoldsIn held (serves (kept_of batches))
  pub rows_are : rows_of_batches batches ≡ rows
  pub sound : IsSound rows
  pub place_is : place ≡ place_behind ServerOwner batches
