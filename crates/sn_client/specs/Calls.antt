-- How a call leaves a device: with what the commits of its run leave, however the call ends.
use Rattle.std.specs.Prelude.{◌≡◌, ◌⊎◌, ◌++◌, ℕ, List, [], ◌∷◌, Result, Ok, Err, ⊤}
use Rattle.rand_chacha.specs.ChaCha.{ChaCha}
use Rattle.sn_disk.specs.declared.disk.Disk.{Ghosts}
use Rattle.sn_journal.specs.declared.owner.Owner.TheVariants.{Device as DeviceOwner}
use Rattle.sn_net.specs.Exchanges.{Exchange}
use Rattle.sn_row_map.specs.RowMaps.{row_in}
use Rattle.sn_rows.specs.Table.{Rows}
use Rattle.sn_rows.specs.declared.change.Change.{Change}
use Rattle.sn_table.specs.Batches.{IsAllOrNothing, IsStore}
use Rattle.sn_table.specs.Kept.{Kept, with_batch}
use Rattle.sn_table.specs.declared.committed.CommitError.{CommitError}
use Rattle.sn_table.specs.declared.committed.CommitError.TheVariants as commit
use Rattle.sn_table.specs.Tables.{IsOpen as IsOpenTable, table_disk, table_rows}
use Rattle.sn_device.specs.Runs.{Act, AreExchanges, Call, Given, Halt, Run, answered, asked, broken, commits, refused}
use Rattle.sn_device.specs.Steps.{What}
use Rattle.sn_device.specs.States.{Bytes}
use Rattle.sn_client.specs.declared.called.Called.{Called}
use Rattle.sn_client.specs.declared.called.Called.TheVariants as called
use Rattle.sn_client.specs.declared.device.Device.{Device}
use Rattle.sn_device.specs.declared.error.ClientError.{ClientError}
use Rattle.sn_device.specs.declared.error.ClientError.TheVariants as refusal

module _ {D : Type 0} {g : Ghosts D} where
  abbrev pub device_disk : Device D g → D
  device_disk device = table_disk device.table

  abbrev pub device_rows : Device D g → Rows
  device_rows device = row_in (table_rows device.table)

  -- it has these rows, and where its disk tells its bytes, that has these batches, also after a crash
  pub record IsOpen (device : Device D g) (kept : Kept) : Type 0 where
    pub rows_are : device_rows device ≡ kept.rows
    pub stands : g.told → IsOpenTable device.table kept.batches

-- a crash of a disk that tells its bytes leaves the batches from before, or those with the whole new one
abbrev pub MayHave : {D : Type 0} → Type 0 → (D → List ℕ → Type 0) → D → Kept → List Change → Type 0
MayHave told may_leave disk kept changes = told → (c : List ℕ) → may_leave disk c → IsAllOrNothing DeviceOwner kept.batches changes c

-- the refusal of a call whose commit is refused
abbrev pub of_commit : CommitError → ClientError
of_commit (commit.TooLarge size) = refusal.TooLarge size
of_commit commit.Memory = refusal.Memory

-- what the commits of some acts leave
abbrev pub kept_done : Kept → List Act → Kept
kept_done kept [] = kept
kept_done kept (commits what changes ∷ acts) = kept_done (with_batch kept changes) acts
kept_done kept (asked r reply ∷ acts) = kept_done kept acts

module _ {S D T : Type 0} where
  -- the disk that a call hands on
  abbrev pub called_disk : (S → D) → Called S D T → D
  called_disk disk_of (called.Done device given) = disk_of device
  called_disk disk_of (called.Refused device why) = disk_of device
  called_disk disk_of (called.Broken disk) = disk

  -- the device, answered or refused
  abbrev pub IfStands : Called S D T → (S → Type 0) → Type 0
  IfStands (called.Done device given) P = P device
  IfStands (called.Refused device why) P = P device
  IfStands (called.Broken disk) P = ⊤

  abbrev pub IfRefused : Called S D T → (ClientError → Type 0) → Type 0
  IfRefused (called.Done device given) P = ⊤
  IfRefused (called.Refused device why) P = P why
  IfRefused (called.Broken disk) P = ⊤

  abbrev pub IfBroken : Called S D T → (D → Type 0) → Type 0
  IfBroken (called.Done device given) P = ⊤
  IfBroken (called.Refused device why) P = ⊤
  IfBroken (called.Broken disk) P = P disk

module _ {S D T : Type 0} (is_open : S → Kept → Type 0) (may_have : D → Kept → List Change → Type 0) (gives : T → Given) where
  -- the call ends so, and the device has what these acts leave; where the disk failed, that has all or nothing of one batch more
  abbrev pub Ends : Kept → List Act → Halt → ChaCha → Called S D T → Type 0
  Ends kept acts halt left (called.Done device given) = (halt ≡ answered (gives given) left) × is_open device (kept_done kept acts)
  Ends kept acts halt left (called.Refused device why) = (halt ≡ refused why) × is_open device (kept_done kept acts)
  Ends kept acts halt left (called.Broken disk) = (what : What) × (changes : List Change) × (halt ≡ broken what changes)
      × may_have disk (kept_done kept acts) changes

  -- a call that asks nothing
  pub record Calls (least : ℕ) (call : Call) (kept : Kept) (words left : ChaCha) (result : Called S D T) : Type 0 where
    pub acts : List Act
    pub halt : Halt
    pub runs : Run least call kept.rows words acts halt
    pub ends : Ends kept acts halt left result

  -- a call that asks a host, with the exchanges that the link tells
  pub record CallsOver (least : ℕ) (call : Call) (asks : List Exchange → Type 0) (host : Bytes) (kept : Kept) (words left : ChaCha)
      (result : Called S D T) : Type 0 where
    pub acts : List Act
    pub halt : Halt
    pub runs : Run least call kept.rows words acts halt
    pub exchanges : List Exchange
    pub are : AreExchanges host acts exchanges
    pub asked_so : asks exchanges
    pub ends : Ends kept acts halt left result

-- ---- a crash in a call of one commit

-- these bytes stand for the batches, or for these with one more, of changes of which this holds
abbrev pub StandsOrHas : List (List Change) → (List Change → Type 0) → List ℕ → Type 0
StandsOrHas batches P c = IsStore DeviceOwner c batches ⊎ ((changes : List Change) × P changes × IsStore DeviceOwner c (batches ++ changes ∷ []))

-- ---- a crash in a call of many commits

-- the acts of a call, and behind them the commit in which the disk failed: of that it has all or nothing
abbrev pub tried : List Act → Halt → List Act
tried acts (answered given left) = acts
tried acts (refused why) = acts
tried acts (broken what changes) = acts ++ commits what changes ∷ []

-- these bytes stand for what a front of these acts leaves
pub record HasFront (kept : Kept) (acts : List Act) (c : List ℕ) : Type 0 where
  pub front : List Act
  pub later : List Act
  pub split : acts ≡ front ++ later
  pub stands : IsStore DeviceOwner c (kept_done kept front).batches

-- ---- a call that changes nothing and draws no words

abbrev pub Tells : {T : Type 0} → ℕ → Call → Rows → (T → Given) → Result T ClientError → Type 0
Tells least call rows gives (Ok given) = (words : ChaCha) → Run least call rows words [] (answered (gives given) words)
Tells least call rows gives (Err why) = (words : ChaCha) → Run least call rows words [] (refused why)
