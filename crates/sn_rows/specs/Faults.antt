-- Why bytes are no list of changes: the first field of the grammar that is out of form, with its place. All that stands
-- before it is in form.
use Rattle.std.specs.Prelude.{◌≡◌, ◌⊎◌, ℕ, ◌+◌, ◌<◌, ◌≤◌, ◌^◌, ◌==◌, ◌&&◌, Bool, false, IsTrue, List, [], ◌∷◌, ◌++◌, length}
use Rattle.std.specs.Int.{w32, w64, from_be_bytes, to_be_bytes}
use Rattle.std.specs.List.{AllByRecursion}
use Rattle.sn_rows.specs.Bounds.{last_stamp, is_device_string, is_type_or_empty}
use Rattle.sn_rows.specs.Kinds.{kind_number}
use Rattle.sn_rows.specs.Cells.{Cell, Column, AllInForm, cells_bytes, counted, flag_byte, is_undeleted}
use Rattle.sn_rows.specs.Cells as col
use Rattle.sn_rows.specs.Columns.{key_columns, value_columns}
use Rattle.sn_rows.specs.Spelling.{Entry, EntryInForm, Framed, entries_bytes}
use Rattle.sn_rows.specs.declared.error.RowError.{RowError}
use Rattle.sn_rows.specs.declared.error.RowError.TheVariants as error
use Rattle.sn_rows.specs.declared.kind.RowKind.{RowKind}

-- the fields that bytes fall into
pub data Field : Type 0 where
  -- 0 for a removal, 1 for a put
  op : Field
  -- the number of a kind
  kind : Field
  -- how many bytes follow: of a key, of a value or of a text
  size : Field
  -- so many bytes of a key or a value
  block : ℕ → Field
  number : Field
  stamp : Field
  -- the stamp where there is no base
  no_stamp : Field
  cost : Field
  fixed : ℕ → Field
  -- one byte below this number
  below : ℕ → Field
  -- a text of so many bytes that passes a test
  text : (List ℕ → Bool) → ℕ → Field
  -- the type of an item on the server
  item_type : ℕ → Field

-- how many bytes a field has
abbrev pub field_size : Field → ℕ
field_size op = 1
field_size kind = 1
field_size size = 4
field_size (block n) = n
field_size number = 8
field_size stamp = 8
field_size no_stamp = 8
field_size cost = 4
field_size (fixed n) = n
field_size (below limit) = 1
field_size (text test n) = n
field_size (item_type n) = n

abbrev pub IsByteBelow : ℕ → List ℕ → Type 0
IsByteBelow limit bytes = (b : ℕ) × (b < limit) × (bytes ≡ b ∷ [])

-- the field may have these bytes, of its size, before those behind it
abbrev pub FieldInForm : Field → List ℕ → List ℕ → Type 0
FieldInForm op bytes behind = IsByteBelow 2 bytes
FieldInForm kind bytes behind = (k : RowKind) × (bytes ≡ kind_number k ∷ [])
FieldInForm stamp bytes behind = from_be_bytes w64 bytes ≤ last_stamp
FieldInForm no_stamp bytes behind = from_be_bytes w64 bytes ≡ 0
FieldInForm cost bytes behind = 1 ≤ from_be_bytes w32 bytes
FieldInForm (below limit) bytes behind = IsByteBelow limit bytes
FieldInForm (text test n) bytes behind = IsTrue (test bytes)
FieldInForm (item_type n) bytes behind = IsTrue (is_type_or_empty bytes) × ((length bytes == 0) && is_undeleted behind ≡ false)
FieldInForm field bytes behind = Unit {0}

-- what is told of a field that is out of form
abbrev pub out_of_form : Field → ℕ → RowError
out_of_form op place = error.Kind place
out_of_form kind place = error.Kind place
out_of_form field place = error.Range place

-- The field at this place, where these bytes stand, is at fault: the bytes end inside it, or they are out of its form.
abbrev pub IsFault : Field → ℕ → List ℕ → RowError → Type 0
IsFault field place rest e = ((length rest < field_size field) × (e ≡ error.Short place))
    ⊎ ((bytes : List ℕ) × (behind : List ℕ) × (rest ≡ bytes ++ behind) × (length bytes ≡ field_size field)
    × ¬ (FieldInForm field bytes behind) × (e ≡ out_of_form field place))

-- the two fields of a text, each with what stands before it: how many bytes, and these
abbrev pub IsFieldOfText : (ℕ → Field) → List ℕ → Field → Type 0
IsFieldOfText text_bytes front field = ((front ≡ []) × (field ≡ size))
    ⊎ ((n : ℕ) × (n < 2 ^ 32) × (front ≡ to_be_bytes w32 n) × (field ≡ text_bytes n))

-- the fields of a column, each with what stands before it in the column
abbrev pub IsFieldOf : Column → List ℕ → Field → Type 0
IsFieldOf col.number front field = (front ≡ []) × (field ≡ number)
IsFieldOf col.stamp front field = (front ≡ []) × (field ≡ stamp)
IsFieldOf col.cost front field = (front ≡ []) × (field ≡ cost)
IsFieldOf (col.fixed count) front field = (front ≡ []) × (field ≡ fixed count)
IsFieldOf (col.text_that test) front field = IsFieldOfText (text test) front field
IsFieldOf col.item_type front field = IsFieldOfText item_type front field
IsFieldOf col.yes_or_no front field = (front ≡ []) × (field ≡ below 2)
IsFieldOf col.which_set front field = (front ≡ []) × (field ≡ below 3)
IsFieldOf col.base_stamp front field = ((front ≡ []) × (field ≡ below 2))
    ⊎ (((front ≡ 1 ∷ []) × (field ≡ stamp)) ⊎ ((front ≡ 0 ∷ []) × (field ≡ no_stamp)))
IsFieldOf col.version front field = ((front ≡ []) × (field ≡ below 3))
    ⊎ (((part : List ℕ) × (front ≡ 2 ∷ part) × IsFieldOfText (text is_device_string) part field)
    ⊎ ((content : List ℕ) × (part : List ℕ) × (front ≡ 2 ∷ (counted content ++ part))
    × IsTrue (is_device_string content) × (length content < 2 ^ 32) × IsFieldOfText (text is_device_string) part field))

-- the first field of a column that is at fault, where the column begins at this place with these bytes
pub record IsColumnFault (column : Column) (place : ℕ) (bytes : List ℕ) (e : RowError) : Type 0 where
  pub front : List ℕ
  pub more : List ℕ
  pub field : Field
  pub is_field : IsFieldOf column front field
  pub parts : bytes ≡ front ++ more
  pub fault : IsFault field (place + length front) more e

-- the first column that has a fault; those before it have cells in form
pub record IsColumnsFault (columns : List Column) (place : ℕ) (bytes : List ℕ) (e : RowError) : Type 0 where
  pub before : List Column
  pub column : Column
  pub after : List Column
  pub cells : List Cell
  pub more : List ℕ
  pub columns_are : columns ≡ before ++ column ∷ after
  pub parts : bytes ≡ cells_bytes cells ++ more
  pub in_form : AllInForm before cells more
  pub fault : IsColumnFault column (place + length (cells_bytes cells)) more e

-- all columns are in form, and more bytes stand behind them
pub record IsLeftOver (columns : List Column) (place : ℕ) (bytes : List ℕ) (e : RowError) : Type 0 where
  pub cells : List Cell
  pub more : List ℕ
  pub parts : bytes ≡ cells_bytes cells ++ more
  pub in_form : AllInForm columns cells more
  pub some : 0 < length more
  pub error_is : e ≡ error.Extra (place + length (cells_bytes cells))

-- the first fault of a key or a value: its length, its bytes, and in these its columns
abbrev pub IsFrameFault : List Column → ℕ → List ℕ → RowError → Type 0
IsFrameFault columns place bytes e = IsFault size place bytes e
    ⊎ (((n : ℕ) × (more : List ℕ) × (n < 2 ^ 32) × (bytes ≡ to_be_bytes w32 n ++ more) × IsFault (block n) (place + 4) more e)
    ⊎ ((inner : List ℕ) × (more : List ℕ) × (length inner < 2 ^ 32) × (bytes ≡ counted inner ++ more)
    × (IsColumnsFault columns (place + 4) inner e ⊎ IsLeftOver columns (place + 4) inner e)))

-- the first fault of a change: its op, its kind, its key, and of a put its value
abbrev pub IsChangeFault : ℕ → List ℕ → RowError → Type 0
IsChangeFault place bytes e = IsFault op place bytes e
    ⊎ (((b : Bool) × (more : List ℕ) × (bytes ≡ flag_byte b ∷ more) × IsFault kind (place + 1) more e)
    ⊎ (((b : Bool) × (k : RowKind) × (more : List ℕ) × (bytes ≡ flag_byte b ∷ kind_number k ∷ more) × IsFrameFault (key_columns k) (place + 2) more e)
    ⊎ ((k : RowKind) × (key : List Cell) × (more : List ℕ) × (bytes ≡ 1 ∷ kind_number k ∷ (counted (cells_bytes key) ++ more))
    × Framed (key_columns k) key × IsFrameFault (value_columns k) (place + 2 + length (counted (cells_bytes key))) more e)))

-- the first fault of a list of changes; those before it are whole and in form
pub record IsFirstFault (bytes : List ℕ) (e : RowError) : Type 0 where
  pub changes : List Entry
  pub more : List ℕ
  pub parts : bytes ≡ entries_bytes changes ++ more
  pub in_form : AllByRecursion EntryInForm changes
  pub some : 0 < length more
  pub fault : IsChangeFault (length (entries_bytes changes)) more e

-- Want of memory is the one free answer; any other refusal tells the first fault.
abbrev pub IsRefusal : List ℕ → RowError → Type 0
IsRefusal bytes error.Memory = Unit {0}
IsRefusal bytes e = IsFirstFault bytes e
