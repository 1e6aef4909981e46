-- Where items are found: by their uuids, and which of them wait to be sent.
use Rattle.std.specs.Prelude.{◌≡◌, ℕ, ◌==◌, ◌<◌, ◌≤◌, List, [], Option, Some, None, IsSome, IsTrue, is_some, true}
use Rattle.std.specs.BTreeMap.{BTreeMap, get}
use Rattle.std.specs.Cmp.Lexicographic.{slice_cmp}
use Rattle.std.specs.Coded.{Coded-set, coded_bool, Π_prop, →_prop, ×_prop}
use Rattle.std.specs.List.{list_any}
use Rattle.std.specs.Option.{unwrap_or}
use Rattle.std.specs.Ordering.{nat_cmp}
use Rattle.sn_rows.specs.Table.{Puts, Rows}
use Rattle.sn_rows.specs.declared.change.Change.{Change}
use Rattle.sn_rows.specs.declared.device_rows.LocalItem.{LocalItem}
use Rattle.sn_rows.specs.declared.key.Key.{Key}
use Rattle.sn_rows.specs.declared.key.Key.TheVariants as key
use Rattle.sn_rows.specs.declared.value.Value.{Value}
use Rattle.sn_rows.specs.declared.value.Value.TheVariants as value
use Rattle.sn_device.specs.Sending.{IsWaiting, Numbered}
use Rattle.sn_device.specs.States.{Bytes, HasLocal}
use Rattle.sn_local.specs.declared.index.Index.{Index}

-- ---- an index

-- the local numbers that stand at a uuid
abbrev pub numbers_at : BTreeMap Bytes (List ℕ) → Bytes → List ℕ
numbers_at names uuid = unwrap_or (get (slice_cmp nat_cmp) names uuid) []

-- this number is one of them
abbrev pub Lists : Index → Bytes → ℕ → Type 0
Lists index uuid n = IsTrue (list_any (λ m. m == n) (numbers_at index.names uuid))

-- the number stands among those that wait
abbrev pub Waits : Index → ℕ → Type 0
Waits index n = IsSome (get nat_cmp index.waiting n)

-- the item stands at its uuid, and among those that wait where it does
abbrev pub IsIndexed : Index → ℕ → LocalItem → Type 0
IsIndexed index n local = Lists index local.uuid n × (IsWaiting local → Waits index n)

-- so does each item of the rows
abbrev pub Indexes : Index → Rows → Type 0
Indexes index rows = (n : ℕ) (local : LocalItem) → HasLocal rows n local → IsIndexed index n local

-- the item of a row does, where it is one of an item
abbrev pub IndexesRow : Index → Key → Value → Type 0
IndexesRow index k v = (n : ℕ) (local : LocalItem) → k ≡ key.Local n → v ≡ value.Local local → IsIndexed index n local

-- so does the item that a change puts
abbrev pub IndexesChange : Index → Change → Type 0
IndexesChange index change = (n : ℕ) (local : LocalItem) → Puts change (key.Local n) (value.Local local) → IsIndexed index n local

-- what stands there stays
pub record KeepsIndexed (old new : Index) : Type 0 where
  pub names : (uuid : Bytes) (n : ℕ) → Lists old uuid n → Lists new uuid n
  pub waiting : (n : ℕ) → Waits old n → Waits new n

-- ---- it has at most one proof, so it may stand as a rule of a struct

IsIndexed-prop : (index : Index) (n : ℕ) (local : LocalItem) → IsProp (IsIndexed index n local)
IsIndexed-prop index n local =
    ×_prop (Coded-set coded_bool (list_any (λ m. m == n) (numbers_at index.names local.uuid)) true)
    (→_prop (Coded-set coded_bool (is_some (get nat_cmp index.waiting n)) true))

pub indexes-prop : (index : Index) (rows : Rows) → IsProp (Indexes index rows)
indexes-prop index rows = Π_prop (λ n. Π_prop (λ local. →_prop (IsIndexed-prop index n local)))

-- ---- items that wait, by their numbers

-- behind this number; any, where there is none
abbrev pub IsBehind : Option ℕ → ℕ → Type 0
IsBehind None n = Unit {0}
IsBehind (Some number) n = number < n

-- no number behind this one stands among those that wait
abbrev pub NoneListed : Index → Option ℕ → Type 0
NoneListed index behind = (n : ℕ) → IsBehind behind n → ¬ (Waits index n)

-- the least number behind this one that does
pub record IsNextListed (index : Index) (behind : Option ℕ) (number : ℕ) : Type 0 where
  pub later : IsBehind behind number
  pub least : (n : ℕ) → IsBehind behind n → Waits index n → number ≤ n

-- no item behind this number waits
abbrev pub NoneWaitsBehind : Rows → Option ℕ → Type 0
NoneWaitsBehind rows behind = (n : ℕ) (local : LocalItem) → IsBehind behind n → HasLocal rows n local → ¬ (IsWaiting local)

-- the item waits, and has the least number of those behind this one that do
pub record IsNextWaiting (rows : Rows) (behind : Option ℕ) (found : Numbered) : Type 0 where
  pub later : IsBehind behind found.0
  pub stands : HasLocal rows found.0 found.1
  pub waits : IsWaiting found.1
  pub least : (n : ℕ) (local : LocalItem) → IsBehind behind n → HasLocal rows n local → IsWaiting local → found.0 ≤ n
