-- Look-ups by uuid, and from number to number of the items that wait.
use Rattle.std.proofs.Common.{arith, below_more, ◌+◌, ◌-◌, ◌^◌, ◌<◌, ◌≤◌, ◌≡◌, ◌∙◌, ℕ, List, Option, Some, None, IfSome, IfNone, IsTrue, MatchOption, sym, ap, subst, length, get_or, ⊎_elim}
use Rattle.std.specs.Prelude.{◌==◌}
use Rattle.std.specs.List.{list_any}
use Rattle.std.proofs.Math.Nat.{eq-or-lt_of_le}
use Rattle.std.proofs.lemmas.Bool.{eqb-true}
use Rattle.std.proofs.lemmas.List.{get_or_default}
use Rattle.std.proofs.lemmas.List.Folds.{Any-from_list_any}
use Rattle.sn_rows.specs.Table.{Rows}
use Rattle.sn_rows.specs.declared.device_rows.LocalItem.{LocalItem}
use Rattle.sn_local.specs.Index.{Indexes, IsBehind, IsNextListed, NoneListed, NoneWaitsBehind, numbers_at}
use Rattle.sn_device.specs.Sending.{IsWaiting, NoneWaits}
use Rattle.sn_device.specs.States.{Bytes, HasItem, HasLocal, IsFree}
use Rattle.sn_local.specs.declared.index.Index.{Index}

-- ---- an item by its uuid

-- a number that stands in a list has its place
place_of : (n : ℕ) (xs : List ℕ) → IsTrue (list_any (λ m. m == n) xs) → (k : ℕ) × (k < length xs) × (get_or xs k 0 ≡ n)
place_of n xs h =
    let at = Any-from_list_any (λ m. m == n) xs h in
    let is : at.1 ≡ n = eqb-true at.1 n at.4 in
    (at.0, at.2, get_or_default xs at.0 0 at.1 at.2 ∙ at.3 ∙ is)

-- no item of the first so many numbers has the uuid
abbrev pub NoneBefore : Rows → Bytes → List ℕ → ℕ → Type 0
NoneBefore rows uuid numbers i = (k : ℕ) → k < i → (item : LocalItem) → ¬ (HasItem rows uuid (get_or numbers k 0) item)

pub none_so_far : (rows : Rows) (uuid : Bytes) (numbers : List ℕ) (i : ℕ) → NoneBefore rows uuid numbers i
    → ((item : LocalItem) → ¬ (HasItem rows uuid (get_or numbers i 0) item)) → NoneBefore rows uuid numbers (i + 1)
none_so_far rows uuid numbers i before here k below =
    below_more (λ m. (item : LocalItem) → ¬ (HasItem rows uuid (get_or numbers m 0) item)) i before here k below

-- where none of them all has it, no item has
pub free_of : (index : Index) (rows : Rows) (uuid : Bytes) (numbers : List ℕ) (i : ℕ) → Indexes index rows → numbers ≡ numbers_at index.names uuid
    → length numbers ≤ i → NoneBefore rows uuid numbers i → IsFree rows uuid
free_of index rows uuid numbers i indexes are whole none n local has =
    let listed : IsTrue (list_any (λ m. m == n) (numbers_at index.names local.uuid)) = (indexes n local has.0).0 in
    let own : IsTrue (list_any (λ m. m == n) numbers) =
    subst (λ (xs : List ℕ). IsTrue (list_any (λ m. m == n) xs)) (ap (λ (u : Bytes). numbers_at index.names u) has.1 ∙ sym are) listed in
    let at = place_of n numbers own in
    let first = at.1 in
    none at.0 (omega arith) local (subst (λ (m : ℕ). HasItem rows uuid m local) (sym at.2) has)

-- ---- the next that waits

-- so many numbers may still come
abbrev pub numbers_left : Option ℕ → ℕ
numbers_left None = 0
numbers_left (Some n) = 2 ^ 64 - n

-- no item behind waits at a number before this one, which is behind too
abbrev pub IsAhead : Rows → Option ℕ → ℕ → Type 0
IsAhead rows behind next = IsBehind behind next × ((n : ℕ) (local : LocalItem) → IsBehind behind n → HasLocal rows n local → IsWaiting local → next ≤ n)

abbrev pub AreAhead : Rows → Option ℕ → Option ℕ → Type 0
AreAhead rows behind next = MatchOption next (NoneWaitsBehind rows behind) (IsAhead rows behind)

pub ahead_first : (index : Index) (rows : Rows) (behind next : Option ℕ) → Indexes index rows → IfSome next (IsNextListed index behind)
    → IfNone next (NoneListed index behind) → AreAhead rows behind next
ahead_first index rows behind None indexes some none = λ n local later stands waits. none n later ((indexes n local stands).1 waits)
ahead_first index rows behind (Some number) indexes some none =
    (some.later, λ n local later stands waits. some.least n later ((indexes n local stands).1 waits))

-- what is behind a number that is behind is behind
behind_more : (behind : Option ℕ) (number n : ℕ) → IsBehind behind number → number < n → IsBehind behind n
behind_more None number n later further = tt
behind_more (Some before) number n later further = omega arith

-- where the item of a number doesn't wait, one that does stands further on
further : (rows : Rows) (behind : Option ℕ) (number n : ℕ) (local : LocalItem) → IsAhead rows behind number
    → ((item : LocalItem) → HasLocal rows number item → ¬ (IsWaiting item)) → IsBehind behind n → HasLocal rows n local → IsWaiting local → number < n
further rows behind number n local ahead not later stands waits =
    ⊎_elim
    (λ (same : number ≡ n). absurd (not local (subst (λ (m : ℕ). HasLocal rows m local) (sym same) stands) waits))
    (λ (less : number < n). less)
    (eq-or-lt_of_le (ahead.1 n local later stands waits))

pub ahead_more : (index : Index) (rows : Rows) (behind next : Option ℕ) (number : ℕ) → Indexes index rows → IsAhead rows behind number
    → ((item : LocalItem) → HasLocal rows number item → ¬ (IsWaiting item)) → IfSome next (IsNextListed index (Some number))
    → IfNone next (NoneListed index (Some number)) → AreAhead rows behind next
ahead_more index rows behind None number indexes ahead not some none = λ n local later stands waits.
    none n (further rows behind number n local ahead not later stands waits) ((indexes n local stands).1 waits)
ahead_more index rows behind (Some next) number indexes ahead not some none = (
  behind_more behind number next ahead.0 some.later,
  λ n local later stands waits. some.least n (further rows behind number n local ahead not later stands waits) ((indexes n local stands).1 waits),
)

-- where no item behind none waits, none waits
pub none_waits : {A : Type 0} (rows : Rows) (found : Option A) → IfNone found (NoneWaitsBehind rows None) → IfNone found (NoneWaits rows)
none_waits rows None none = λ n local stands waits. none n local tt stands waits
none_waits rows (Some x) none = tt
