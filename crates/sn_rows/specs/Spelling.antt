-- The one spelling of each list of changes.
use Rattle.std.specs.Prelude.{ℕ, ◌<◌, ◌^◌, List, [], ◌∷◌, ◌++◌, length, map}
use Rattle.std.specs.List.{flat_map, AllByRecursion}
use Rattle.sn_rows.specs.Kinds.{kind_number, key_kind}
use Rattle.sn_rows.specs.Cells.{Cell, Column, counted, cells_bytes, AllInForm}
use Rattle.sn_rows.specs.Columns.{key_columns, value_columns, key_cells, value_cells}
use Rattle.sn_rows.specs.declared.kind.RowKind.{RowKind}
use Rattle.sn_rows.specs.declared.change.Change.{Change}
use Rattle.sn_rows.specs.declared.change.Change.TheVariants.{Put, Remove}

-- a change as its columns stand in the bytes
pub data Entry : Type 0 where
  put : RowKind → List Cell → List Cell → Entry
  remove : RowKind → List Cell → Entry

abbrev pub entry_of : Change → Entry
entry_of (Put row) = put (key_kind row.key) (key_cells row.key) (value_cells row.value)
entry_of (Remove key) = remove (key_kind key) (key_cells key)

abbrev pub entries_of : List Change → List Entry
entries_of changes = map entry_of changes

-- 1 for a put or 0 for a remove, the number of the kind, and length and bytes of key and value
abbrev pub entry_bytes : Entry → List ℕ
entry_bytes (put kind key value) = 1 ∷ kind_number kind ∷ (counted (cells_bytes key) ++ counted (cells_bytes value))
entry_bytes (remove kind key) = 0 ∷ kind_number kind ∷ counted (cells_bytes key)

-- the bytes of changes, one after the other
abbrev pub entries_bytes : List Entry → List ℕ
entries_bytes entries = flat_map entry_bytes entries

abbrev pub spelled : List Change → List ℕ
spelled changes = entries_bytes (entries_of changes)

-- cells that their columns may have, and that fit into a length of four bytes
pub record Framed (columns : List Column) (cells : List Cell) : Type 0 where
  pub each : AllInForm columns cells []
  pub short : length (cells_bytes cells) < 2 ^ 32

abbrev pub EntryInForm : Entry → Type 0
EntryInForm (put kind key value) = Framed (key_columns kind) key × Framed (value_columns kind) value
EntryInForm (remove kind key) = Framed (key_columns kind) key

-- each column of each change is in its form, as it is in every change that a program holds
abbrev pub AreInForm : List Change → Type 0
AreInForm changes = AllByRecursion EntryInForm (entries_of changes)
