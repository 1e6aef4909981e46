-- Changes of password, on a device's rows: when one may begin, what the adoption of a set makes of the items, and when an older set may go.
use Rattle.std.specs.Prelude.{◌≡◌, ◌⊎◌, ◌≤◌, ℕ, List, [], ◌∷◌, Some, None, IsSome}
use Rattle.rand_chacha.specs.ChaCha.{ChaCha}
use Rattle.sn_rekey.specs.Carrying.{IsOfOther}
use Rattle.sn_rekey.specs.Rekeying.{HasNoneOpen, HasOpen, Rekeys}
use Rattle.sn_rekey.specs.declared.error.Running.{Running}
use Rattle.sn_rekey.specs.declared.error.Running.TheVariants as running
use Rattle.sn_rows.specs.Table.{Puts, Rows}
use Rattle.sn_rows.specs.declared.change.Change.{Change}
use Rattle.sn_rows.specs.declared.device_rows.LocalItem.{LocalItem}
use Rattle.sn_rows.specs.declared.device_rows.OwnerRow.{OwnerRow}
use Rattle.sn_rows.specs.declared.key.Key.TheVariants as key
use Rattle.sn_rows.specs.declared.key.Slot.TheVariants.{Asked, Present}
use Rattle.sn_rows.specs.declared.value.Value.TheVariants as value
use Rattle.sn_sets.specs.declared.sets.Sets.{Sets}
use Rattle.sn_string.specs.declared.params.KeySet.{KeySet}
use Rattle.sn_device.specs.Sending.{Numbered}
use Rattle.sn_device.specs.States.{Bytes, HasItem, HasLocal, HasOwner, IsInSlot}

-- ---- when a change may begin

-- of the items of which this holds, it is that of the lowest local number
pub record IsFirstItem (rows : Rows) (P : LocalItem → Type 0) (uuid : Bytes) : Type 0 where
  pub number : ℕ
  pub local : LocalItem
  pub stands : HasItem rows uuid number local
  pub so : P local
  pub first : (other : ℕ) (twin : LocalItem) → HasLocal rows other twin → P twin → number ≤ other

-- an older set is held, of this nonce; or else a version of this item is sealed under another set than the present one
abbrev pub IsRunning : Rows → Sets → Running → Type 0
IsRunning rows sets (running.Older nonce) = (older : KeySet) × (sets.older ≡ Some older) × (nonce ≡ older.params.pw_nonce)
IsRunning rows sets (running.Item uuid) = (sets.older ≡ None) × IsFirstItem rows (IsOfOther sets.present) uuid

-- no older set is held, and every version is sealed under the present one
pub record NoneRuns (rows : Rows) (sets : Sets) : Type 0 where
  pub none_older : sets.older ≡ None
  pub present : (number : ℕ) (local : LocalItem) → HasLocal rows number local → ¬ (IsOfOther sets.present local)

-- this item was sent, and its answer wasn't applied
abbrev pub IsFirstSent : Rows → Bytes → Type 0
IsFirstSent rows uuid = IsFirstItem rows (λ local. IsSome local.posted) uuid

-- a set may be asked for: no change runs, none is asked for, and nothing was sent that isn't answered
pub record MayAsk (rows : Rows) (sets : Sets) : Type 0 where
  pub none_runs : NoneRuns rows sets
  pub none_asked : sets.asked ≡ None
  pub none_sent : (number : ℕ) (local : LocalItem) → HasLocal rows number local → local.posted ≡ None

-- the account, its present set, and the set that is asked for
pub record HoldsAsked (rows : Rows) (owner : OwnerRow) (present set : KeySet) : Type 0 where
  pub owned : HasOwner rows owner
  pub in_use : IsInSlot rows owner.identifier Present (Some present)
  pub wanted : IsInSlot rows owner.identifier Asked (Some set)

-- ---- what an adoption makes of the items

-- each in order: one of which a version opens under a set that is held has it sealed again under the new set; each other one stays as it is
abbrev pub RekeysAll : Sets → KeySet → ChaCha → List Numbered → List Change → ChaCha → Type 0
RekeysAll sets set words [] changes left = (changes ≡ []) × (left ≡ words)
RekeysAll sets set words (w ∷ items) changes left =
    (HasNoneOpen sets w.1 × RekeysAll sets set words items changes left)
    ⊎ (HasOpen sets w.1 × (after : LocalItem) × (rest : ChaCha) × (change : Change) × (later : List Change) × Rekeys sets set words w.1 after rest
    × Puts change (key.Local w.0) (value.Local after) × (changes ≡ change ∷ later) × RekeysAll sets set rest items later left)
