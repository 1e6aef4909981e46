-- Open tables.
use Rattle.std.specs.Prelude.{◌≡◌, ℕ, List}
use Rattle.sn_disk.specs.declared.disk.Disk.{Ghosts}
use Rattle.sn_journal.specs.declared.owner.Owner.{Owner}
use Rattle.sn_row_map.specs.RowMaps.{SameRows}
use Rattle.sn_row_map.specs.declared.row_map.RowMap.{RowMap}
use Rattle.sn_rows.specs.declared.change.Change.{Change}
use Rattle.sn_table.specs.Logs.{log_disk, log_owner, HasRows, IsLoaded}
use Rattle.sn_table.specs.declared.table.Table.{Table}

module _ {D : Type 0} {g : Ghosts D} where
  abbrev pub table_disk : Table D g → D
  table_disk table = log_disk table.log

  abbrev pub table_owner : Table D g → Owner
  table_owner table = log_owner table.log

  abbrev pub table_rows : Table D g → RowMap
  table_rows table = table.rows

  -- its disk has these batches, also after a crash, and its rows are those that they leave
  abbrev pub IsOpen : Table D g → List (List Change) → Type 0
  IsOpen table batches = HasRows table.log table.rows batches

  -- open with batches that this file stands for
  abbrev pub IsOpened : Owner → List ℕ → Table D g → Type 0
  IsOpened owner file table = IsLoaded owner file table.log table.rows

  -- the log is as it was, and the rows are the same
  pub record IsUntouched (old new : Table D g) : Type 0 where
    pub log : new.log ≡ old.log
    pub rows : SameRows old.rows new.rows
