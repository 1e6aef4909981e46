-- What a list of changes leaves, row by row.
use Rattle.std.specs.Prelude.{◌≡◌, ℕ, ◌==◌, List, [], ◌∷◌, ◌++◌, Bool, true, false, ◌&&◌, Option, Some, None, if◌then◌else◌, take}
use Rattle.std.specs.Str.{bytes_eq}
use Rattle.std.specs.List.{flat_map}
use Rattle.sn_rows.specs.declared.key.Slot.{Slot}
use Rattle.sn_rows.specs.declared.key.Slot.TheVariants.{Present, Older, Asked}
use Rattle.sn_rows.specs.declared.key.Key.{Key}
use Rattle.sn_rows.specs.declared.key.Key.TheVariants as key
use Rattle.sn_rows.specs.declared.value.Value.{Value}
use Rattle.sn_rows.specs.declared.change.Change.{Change}
use Rattle.sn_rows.specs.declared.change.Change.TheVariants.{Put, Remove}

-- the rows of a table: of each key a value, or none
abbrev pub Rows : Type 0
Rows = Key → Option Value

-- a table without rows
abbrev pub no_rows : Rows
no_rows key = None

abbrev pub same_slot : Slot → Slot → Bool
same_slot Present Present = true
same_slot Older Older = true
same_slot Asked Asked = true
same_slot _ _ = false

abbrev pub same_key : Key → Key → Bool
same_key key.Store key.Store = true
same_key (key.Account n) (key.Account m) = n == m
same_key (key.Generation n g) (key.Generation m h) = (n == m) && (g == h)
same_key (key.Item u) (key.Item w) = bytes_eq u w
same_key key.Owner key.Owner = true
same_key (key.Set s) (key.Set t) = same_slot s t
same_key (key.Local n) (key.Local m) = n == m
same_key _ _ = false

-- the key whose row a change sets or takes away
abbrev pub key_of : Change → Key
key_of (Put row) = row.key
key_of (Remove key) = key

-- what the change leaves of that row
abbrev pub value_of : Change → Option Value
value_of (Put row) = Some row.value
value_of (Remove key) = None

-- the row of a key after a change, where it was this before
abbrev pub changed : Option Value → Key → Change → Option Value
changed found key change = if same_key (key_of change) key then value_of change else found

-- the row of a key after changes, where it was this before
abbrev pub row_after : Option Value → Key → List Change → Option Value
row_after found key [] = found
row_after found key (change ∷ changes) = row_after (changed found key change) key changes

-- the rows after changes of a table
abbrev pub rows_after : Rows → List Change → Rows
rows_after rows changes key = row_after (rows key) key changes

-- the rows that changes leave of a table without rows
abbrev pub rows_of : List Change → Rows
rows_of changes key = row_after None key changes

-- the rows that batches leave, and those that the first n of them leave
abbrev pub rows_of_batches : List (List Change) → Rows
rows_of_batches batches = rows_of (flat_map (λ batch. batch) batches)

abbrev pub rows_at : ℕ → List (List Change) → Rows
rows_at n batches = rows_of_batches (take n batches)

-- no change is of this key's row
abbrev pub Spares : Key → List Change → Type 0
Spares key [] = Unit {0}
Spares key (change ∷ changes) = (same_key (key_of change) key ≡ false) × Spares key changes

-- the last change of this key's row is this one
pub record IsLast (changes : List Change) (key : Key) (change : Change) : Type 0 where
  pub before : List Change
  pub after : List Change
  pub parts : changes ≡ before ++ change ∷ after
  pub named : key_of change ≡ key
  pub spared : Spares key after

-- the rows with this value, or none, at a key
abbrev pub with_row : Rows → Key → Option Value → Rows
with_row rows at found key = if same_key at key then found else rows key

-- the change puts this value at this key
pub record Puts (change : Change) (at : Key) (v : Value) : Type 0 where
  pub key_is : key_of change ≡ at
  pub value_is : value_of change ≡ Some v

-- the change takes the row of this key away
pub record Removes (change : Change) (at : Key) : Type 0 where
  pub key_is : key_of change ≡ at
  pub value_is : value_of change ≡ None
