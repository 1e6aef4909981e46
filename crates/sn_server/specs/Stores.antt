-- What a server has, and a server that has it.
use Rattle.std.specs.Prelude.{◌≡◌, ◌++◌, List, ℕ, [], ◌∷◌}
use Rattle.sn_disk.specs.declared.disk.Disk.{Ghosts}
use Rattle.sn_journal.specs.declared.owner.Owner.TheVariants.{Server as ServerOwner}
use Rattle.sn_rows.specs.Table.{Rows, rows_after}
use Rattle.sn_rows.specs.declared.change.Change.{Change}
use Rattle.sn_account.specs.States.{state_rows}
use Rattle.sn_table.specs.Batches.{IsAllOrNothing}
use Rattle.sn_table.specs.Logs.{StandsFor, log_disk}
use Rattle.sn_server.specs.declared.server.Server.{Server}

-- rows, and the batches of changes on a disk, of which each crash leaves all
pub record Kept : Type 0 where
  pub rows : Rows
  pub batches : List (List Change)

-- no batch is made of no changes
abbrev pub batch_of : List Change → List (List Change)
batch_of [] = []
batch_of (change ∷ changes) = (change ∷ changes) ∷ []

-- after changes in one batch
abbrev pub after : Kept → List Change → Kept
after kept made = record { rows = rows_after kept.rows made; batches = kept.batches ++ batch_of made }

module _ {D : Type 0} {g : Ghosts D} where
  abbrev pub server_disk : Server D g → D
  server_disk server = log_disk server.log

  abbrev pub server_rows : Server D g → Rows
  server_rows server = state_rows server.state

  -- it has these rows, and where its disk tells its bytes, that stands for these batches, also after a crash
  pub record IsOpen (server : Server D g) (kept : Kept) : Type 0 where
    pub rows_are : server_rows server ≡ kept.rows
    pub stands : g.told → StandsFor server.log kept.batches

-- a crash of a disk that tells its bytes leaves the batches from before, or those with the whole new one
abbrev pub MayHave : {D : Type 0} → Type 0 → (D → List ℕ → Type 0) → D → Kept → List Change → Type 0
MayHave told may_leave disk kept made = told → (c : List ℕ) → may_leave disk c → IsAllOrNothing ServerOwner kept.batches made c
