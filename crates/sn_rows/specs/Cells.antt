-- The columns of keys and values: what may stand in each, and the bytes that spell it.
use Rattle.std.specs.Prelude.{◌≡◌, ℕ, ◌<◌, ◌≤◌, ◌^◌, ◌==◌, Bool, true, false, ◌&&◌, IsTrue, List, [], ◌∷◌, ◌++◌, length, Option, Some, None, IfSome, slice_index_or}
use Rattle.std.specs.Int.{w32, w64, to_be_bytes}
use Rattle.sn_rows.specs.Bounds.{last_stamp, is_type_or_empty, is_device_string}
use Rattle.sn_rows.specs.declared.key.Slot.{Slot}
use Rattle.sn_rows.specs.declared.key.Slot.TheVariants.{Present, Older, Asked}

-- a body: none, a deletion, or a content and an item key
abbrev pub Body : Type 0
Body = Option (Option (List ℕ × List ℕ))

-- what stands in one column
pub data Cell : Type 0 where
  narrow : ℕ → Cell
  wide : ℕ → Cell
  plain : List ℕ → Cell
  text : List ℕ → Cell
  flag : Bool → Cell
  slot : Slot → Cell
  base : Option ℕ → Cell
  body : Body → Cell

-- a text: four bytes of length, and its bytes
abbrev pub counted : List ℕ → List ℕ
counted bytes = to_be_bytes w32 (length bytes) ++ bytes

abbrev pub flag_byte : Bool → ℕ
flag_byte false = 0
flag_byte true = 1

abbrev pub slot_byte : Slot → ℕ
slot_byte Present = 0
slot_byte Older = 1
slot_byte Asked = 2

-- whether there is a base, and its stamp; 0 without base
abbrev pub base_bytes : Option ℕ → List ℕ
base_bytes None = 0 ∷ to_be_bytes w64 0
base_bytes (Some stamp) = 1 ∷ to_be_bytes w64 stamp

abbrev pub body_bytes : Body → List ℕ
body_bytes None = 0 ∷ []
body_bytes (Some None) = 1 ∷ []
body_bytes (Some (Some strings)) = 2 ∷ (counted strings.0 ++ counted strings.1)

-- the bytes of a column
abbrev pub cell_bytes : Cell → List ℕ
cell_bytes (narrow n) = to_be_bytes w32 n
cell_bytes (wide n) = to_be_bytes w64 n
cell_bytes (plain bytes) = bytes
cell_bytes (text bytes) = counted bytes
cell_bytes (flag b) = flag_byte b ∷ []
cell_bytes (slot s) = slot_byte s ∷ []
cell_bytes (base stamp) = base_bytes stamp
cell_bytes (body b) = body_bytes b

-- the bytes of a key's or a value's columns
abbrev pub cells_bytes : List Cell → List ℕ
cells_bytes [] = []
cells_bytes (cell ∷ cells) = cell_bytes cell ++ cells_bytes cells

-- the form of a column
pub data Column : Type 0 where
  -- a number of eight bytes
  number : Column
  -- one that is a stamp
  stamp : Column
  -- a number of four bytes, not 0
  cost : Column
  -- so many bytes
  fixed : ℕ → Column
  -- a text that passes a test
  text_that : (List ℕ → Bool) → Column
  -- the type of an item on the server, which two stamps and the flag of deletion follow
  item_type : Column
  -- 0 or 1
  yes_or_no : Column
  -- 0, 1 or 2
  which_set : Column
  -- a flag, and a stamp that is 0 without it
  base_stamp : Column
  -- 0, 1, or 2 and two strings
  version : Column

-- the flag behind the two stamps that these bytes begin with says that the item isn't deleted
abbrev pub is_undeleted : List ℕ → Bool
is_undeleted rest = slice_index_or rest 16 1 == 0

abbrev pub BodyInForm : Body → Type 0
BodyInForm None = Unit {0}
BodyInForm (Some None) = Unit {0}
BodyInForm (Some (Some strings)) = IsTrue (is_device_string strings.0) × IsTrue (is_device_string strings.1)
    × (length strings.0 < 2 ^ 32) × (length strings.1 < 2 ^ 32)

-- the column may have this cell, before these bytes of later columns
abbrev pub InForm : Column → Cell → List ℕ → Type 0
InForm number (wide n) rest = n < 2 ^ 64
InForm stamp (wide n) rest = n ≤ last_stamp
InForm cost (narrow n) rest = (1 ≤ n) × (n < 2 ^ 32)
InForm (fixed count) (plain bytes) rest = length bytes ≡ count
InForm (text_that test) (text bytes) rest = IsTrue (test bytes) × (length bytes < 2 ^ 32)
InForm item_type (text bytes) rest = IsTrue (is_type_or_empty bytes) × (length bytes < 2 ^ 32) × ((length bytes == 0) && is_undeleted rest ≡ false)
InForm yes_or_no (flag b) rest = Unit {0}
InForm which_set (slot s) rest = Unit {0}
InForm base_stamp (base found) rest = IfSome found (λ s. s ≤ last_stamp)
InForm version (body b) rest = BodyInForm b
InForm column cell rest = ⊥

-- each column has its cell, before these bytes
abbrev pub AllInForm : List Column → List Cell → List ℕ → Type 0
AllInForm [] [] rest = Unit {0}
AllInForm (column ∷ columns) (cell ∷ cells) rest = InForm column cell (cells_bytes cells ++ rest) × AllInForm columns cells rest
AllInForm columns cells rest = ⊥
