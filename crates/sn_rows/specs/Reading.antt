-- Reading a payload from the left, as the functions of the crate do it, up to the first fault. What they read and refuse together
-- is said by the grammar, in Spelling and Faults.
use Rattle.std.specs.Prelude.{◌≡◌, ℕ, zero, suc, ◌+◌, ◌==◌, ◌&&◌, Bool, true, false, List, [], ◌∷◌, length, take, drop, Option, Some, None, Result, Ok, Err, nat_lt, nat_le, if◌then◌else◌, slice_index_or}
use Rattle.std.specs.Int.{Width, w32, w64, byte_len, from_be_bytes}
use Rattle.sn_rows.specs.Bounds.{last_stamp, is_device_string, is_type_or_empty}
use Rattle.sn_rows.specs.Kinds.{kind_of_number}
use Rattle.sn_rows.specs.Cells.{Body, Cell, narrow, wide, plain, text, flag, slot, base, body, Column, number, stamp, cost, fixed, text_that, item_type, yes_or_no, which_set, base_stamp, version, is_undeleted}
use Rattle.sn_rows.specs.Columns.{key_columns, value_columns}
use Rattle.sn_rows.specs.Spelling.{Entry, put, remove}
use Rattle.sn_rows.specs.declared.kind.RowKind.{RowKind}
use Rattle.sn_rows.specs.declared.key.Slot.{Slot}
use Rattle.sn_rows.specs.declared.key.Slot.TheVariants.{Present, Older, Asked}
use Rattle.sn_rows.specs.declared.error.RowError.{RowError}
use Rattle.sn_rows.specs.declared.error.RowError.TheVariants as error

-- where a reading stands: the place in the payload, and the bytes from there to the end of what is read
pub record Spot : Type 0 where
  pub place : ℕ
  pub rest : List ℕ

abbrev pub spot : ℕ → List ℕ → Spot
spot place rest = record { place = place; rest = rest }

-- the spot so many bytes further on
abbrev pub past : ℕ → Spot → Spot
past count s = record { place = s.place + count; rest = drop count s.rest }

-- what is read at a spot, with the spot behind it, or the first fault
abbrev pub Read : Type 0 → Type 0
Read A = Result (A × Spot) RowError

infixl 10 ◌>>=◌
abbrev pub ◌>>=◌ : {A B : Type 0} → Result A RowError → (A → Result B RowError) → Result B RowError
(Ok x) >>= f = f x
(Err e) >>= f = Err e

unfoldable pub bytes_at : ℕ → Spot → Read (List ℕ)
bytes_at count s = if nat_lt (length s.rest) count then Err (error.Short s.place) else Ok (take count s.rest, past count s)

unfoldable pub number_at : Width → Spot → Read ℕ
number_at w s = if nat_lt (length s.rest) (byte_len w) then Err (error.Short s.place) else Ok (from_be_bytes w (take (byte_len w) s.rest), past (byte_len w) s)

unfoldable pub byte_at : Spot → Read ℕ
byte_at s = if length s.rest == 0 then Err (error.Short s.place) else Ok (slice_index_or s.rest 0 0, past 1 s)

unfoldable pub stamp_at : Spot → Read ℕ
stamp_at s = do
  n ← number_at w64 s
  if nat_le n.0 last_stamp then Ok n else Err (error.Range s.place)

unfoldable pub cost_at : Spot → Read ℕ
cost_at s = do
  n ← number_at w32 s
  if n.0 == 0 then Err (error.Range s.place) else Ok n

-- the bytes of a text are a field of their own, behind that of its length
unfoldable pub text_at : (List ℕ → Bool) → Spot → Read (List ℕ)
text_at test s = do
  n ← number_at w32 s
  t ← bytes_at n.0 n.1
  if test t.0 then Ok t else Err (error.Range n.1.place)

-- an empty type is out of form where the flag of deletion, which comes later, says so
unfoldable pub type_at : Spot → Read (List ℕ)
type_at s = do
  n ← number_at w32 s
  t ← bytes_at n.0 n.1
  if is_type_or_empty t.0
      then (if (length t.0 == 0) && is_undeleted t.1.rest then Err (error.Range n.1.place) else Ok t)
      else Err (error.Range n.1.place)

unfoldable pub flag_at : Spot → Read Bool
flag_at s = do
  b ← byte_at s
  if b.0 == 0 then Ok (false, b.1) else if b.0 == 1 then Ok (true, b.1) else Err (error.Range s.place)

unfoldable pub slot_at : Spot → Read Slot
slot_at s = do
  b ← byte_at s
  if b.0 == 0 then Ok (Present, b.1) else if b.0 == 1 then Ok (Older, b.1) else if b.0 == 2 then Ok (Asked, b.1) else Err (error.Range s.place)

unfoldable pub base_at : Spot → Read (Option ℕ)
base_at s = do
  b ← flag_at s
  n ← stamp_at b.1
  if b.0 then Ok (Some n.0, n.1) else if n.0 == 0 then Ok (None, n.1) else Err (error.Range b.1.place)

unfoldable pub body_at : Spot → Read Body
body_at s = do
  b ← byte_at s
  if b.0 == 0 then Ok (None, b.1)
      else if b.0 == 1 then Ok (Some None, b.1)
      else if b.0 == 2 then (do
        content ← text_at is_device_string b.1
        enc ← text_at is_device_string content.1
        Ok (Some (Some (content.0, enc.0)), enc.1))
      else Err (error.Range s.place)

-- the cell of a column
abbrev pub cell_as : {A : Type 0} → (A → Cell) → Read A → Read Cell
cell_as f (Ok x) = Ok (f x.0, x.1)
cell_as f (Err e) = Err e

abbrev pub column_at : Column → Spot → Read Cell
column_at number s = cell_as wide (number_at w64 s)
column_at stamp s = cell_as wide (stamp_at s)
column_at cost s = cell_as narrow (cost_at s)
column_at (fixed count) s = cell_as plain (bytes_at count s)
column_at (text_that test) s = cell_as text (text_at test s)
column_at item_type s = cell_as text (type_at s)
column_at yes_or_no s = cell_as flag (flag_at s)
column_at which_set s = cell_as slot (slot_at s)
column_at base_stamp s = cell_as base (base_at s)
column_at version s = cell_as body (body_at s)

abbrev pub columns_at : List Column → Spot → Read (List Cell)
columns_at [] s = Ok ([], s)
columns_at (column ∷ columns) s = do
  cell ← column_at column s
  cells ← columns_at columns cell.1
  Ok (cell.0 ∷ cells.0, cells.1)

-- the bytes that a length counts, as a spot of their own
unfoldable pub window_at : Spot → Read Spot
window_at s = do
  n ← number_at w32 s
  t ← bytes_at n.0 n.1
  Ok (spot n.1.place t.0, t.1)

-- the columns of a key or a value, and nothing else
unfoldable pub framed_at : List Column → Spot → Read (List Cell)
framed_at columns s = do
  w ← window_at s
  cells ← columns_at columns w.0
  if length cells.1.rest == 0 then Ok (cells.0, w.1) else Err (error.Extra cells.1.place)

unfoldable pub op_at : Spot → Read Bool
op_at s = do
  b ← byte_at s
  if b.0 == 0 then Ok (false, b.1) else if b.0 == 1 then Ok (true, b.1) else Err (error.Kind s.place)

abbrev pub kind_or : Option RowKind → Spot → Spot → Read RowKind
kind_or (Some kind) s next = Ok (kind, next)
kind_or None s next = Err (error.Kind s.place)

unfoldable pub kind_at : Spot → Read RowKind
kind_at s = do
  b ← byte_at s
  kind_or (kind_of_number b.0) s b.1

unfoldable pub entry_at : Spot → Read Entry
entry_at s = do
  op ← op_at s
  kind ← kind_at op.1
  key ← framed_at (key_columns kind.0) kind.1
  if op.0
      then (do
        value ← framed_at (value_columns kind.0) key.1
        Ok (put kind.0 key.0 value.0, value.1))
      else Ok (remove kind.0 key.0, key.1)

-- as many changes at most as is said
unfoldable pub entries_at : ℕ → Spot → Result (List Entry) RowError
entries_at zero s = Ok []
entries_at (suc n) s =
    if length s.rest == 0 then Ok []
    else (do
      entry ← entry_at s
      entries ← entries_at n entry.1
      Ok (entry.0 ∷ entries))

-- all changes of a payload, of which there are fewer than bytes
abbrev pub payload_at : List ℕ → Result (List Entry) RowError
payload_at bytes = entries_at (length bytes) (spot 0 bytes)

-- Want of memory is the one free answer; any other is what reading gives.
abbrev pub Fails : {Y : Type 0} → RowError → Result Y RowError → Type 0
Fails error.Memory read = Unit {0}
Fails (error.Short place) read = read ≡ Err (error.Short place)
Fails (error.Kind place) read = read ≡ Err (error.Kind place)
Fails (error.Range place) read = read ≡ Err (error.Range place)
Fails (error.Extra place) read = read ≡ Err (error.Extra place)

-- what a function returned, seen by a view, is what reading gives, unless memory was wanting
abbrev pub Gives : {X Y : Type 0} → (X → Y) → Result X RowError → Result Y RowError → Type 0
Gives view (Ok x) read = read ≡ Ok (view x)
Gives view (Err e) read = Fails e read
