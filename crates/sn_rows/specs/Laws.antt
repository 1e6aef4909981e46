-- What holds of every list of changes.
use Rattle.std.specs.Prelude.{◌≡◌, ◌≢◌, ◌↔◌, ℕ, List, [], ◌∷◌, ◌++◌, ◌⊎◌, IsTrue, None, Some, MatchResult, Result, Ok}
use Rattle.sn_rows.specs.declared.key.Key.{Key}
use Rattle.sn_rows.specs.declared.change.Change.{Change}
use Rattle.sn_rows.specs.declared.error.RowError.{RowError}
use Rattle.sn_rows.specs.declared.error.RowError.TheVariants as error
use Rattle.sn_rows.specs.declared.value.Value.{Value}
use Rattle.sn_rows.specs.Order.{code_order, key_order}
use Rattle.sn_rows.specs.Table.{Rows, Puts, Removes, same_key, value_of, rows_after, rows_of, rows_of_batches, with_row, Spares, IsLast}
use Rattle.sn_rows.specs.Spelling.{spelled, AreInForm}
use Rattle.sn_rows.specs.Faults.{IsRefusal}

-- two keys are the same where they are equal
abbrev pub KeysCompare : Type 0
KeysCompare = (a b : Key) → IsTrue (same_key a b) ↔ (a ≡ b)

-- the code compares keys in their order
abbrev pub KeysAreInOrder : Type 0
KeysAreInOrder = (a b : Key) → code_order a b ≡ key_order a b

-- the row of a key is what its last change leaves; without a change of it there is none
abbrev pub LastCounts : Type 0
LastCounts = (changes : List Change) (key : Key) (change : Change) → IsLast changes key change → rows_of changes key ≡ value_of change

abbrev pub SparedIsNone : Type 0
SparedIsNone = (changes : List Change) (key : Key) → Spares key changes → rows_of changes key ≡ None

-- and one of the two is so
abbrev pub LastOrSpared : Type 0
LastOrSpared = (changes : List Change) (key : Key) → ((change : Change) × IsLast changes key change) ⊎ Spares key changes

-- changes that follow others change the rows that those left
abbrev pub Follows : Type 0
Follows = (rows : Rows) (first second : List Change) (key : Key) → rows_after rows (first ++ second) key ≡ rows_after (rows_after rows first) second key

-- likewise a batch that follows others
abbrev pub BatchFollows : Type 0
BatchFollows = (batches : List (List Change)) (batch : List Change) (key : Key) → rows_of_batches (batches ++ batch ∷ []) key ≡ rows_after (rows_of_batches batches) batch key

-- changes of other rows leave a row as it was
abbrev pub SparedStays : Type 0
SparedStays = (rows : Rows) (changes : List Change) (key : Key) → Spares key changes → rows_after rows changes key ≡ rows key

-- a put leaves the rows with its own row: that row there, and each other one as it was
abbrev pub PutGives : Type 0
PutGives = (rows : Rows) (change : Change) (at : Key) (v : Value) → Puts change at v → rows_after rows (change ∷ []) ≡ with_row rows at (Some v)

abbrev pub PutHere : Type 0
PutHere = (rows : Rows) (change : Change) (at : Key) (v : Value) → Puts change at v → rows_after rows (change ∷ []) at ≡ Some v

abbrev pub PutElsewhere : Type 0
PutElsewhere = (rows : Rows) (change : Change) (at other : Key) (v : Value) → Puts change at v → at ≢ other
    → rows_after rows (change ∷ []) other ≡ rows other

-- a removal leaves the rows without its row
abbrev pub RemovalGives : Type 0
RemovalGives = (rows : Rows) (change : Change) (at : Key) → Removes change at → rows_after rows (change ∷ []) ≡ with_row rows at None

abbrev pub RemovedHere : Type 0
RemovedHere = (rows : Rows) (change : Change) (at : Key) → Removes change at → rows_after rows (change ∷ []) at ≡ None

abbrev pub RemovedElsewhere : Type 0
RemovedElsewhere = (rows : Rows) (change : Change) (at other : Key) → Removes change at → at ≢ other
    → rows_after rows (change ∷ []) other ≡ rows other

-- the bytes spell these changes: what `write` gives of changes, and what `read` has found
abbrev pub Spells : List ℕ → List Change → Type 0
Spells bytes changes = (bytes ≡ spelled changes) × AreInForm changes

-- `read` may answer so
abbrev pub IsAnswer : List ℕ → Result (List Change) RowError → Type 0
IsAnswer bytes answer = MatchResult answer (Spells bytes) (IsRefusal bytes)

-- what is written is read back, or memory is wanting
abbrev pub IsReadBack : Type 0
IsReadBack = (changes : List Change) (bytes : List ℕ) → Spells bytes changes
    → (answer : Result (List Change) RowError) → IsAnswer bytes answer
    → MatchResult answer (λ found. found ≡ changes) (λ e. e ≡ error.Memory)

-- changes have one spelling: the bytes that are read as these changes are those that are written of them
abbrev pub HasOneSpelling : Type 0
HasOneSpelling = (changes : List Change) (bytes written : List ℕ) → IsAnswer bytes (Ok changes) → Spells written changes → bytes ≡ written

-- bytes spell one list of changes at most
abbrev pub HasOneReading : Type 0
HasOneReading = (bytes : List ℕ) (a b : List Change) → Spells bytes a → Spells bytes b → a ≡ b

-- bytes have one first fault at most, so a refusal is told in one way
abbrev pub HasOneRefusal : Type 0
HasOneRefusal = (bytes : List ℕ) (a b : RowError) → a ≢ error.Memory → b ≢ error.Memory → IsRefusal bytes a → IsRefusal bytes b → a ≡ b
