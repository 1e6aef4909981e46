-- One exchange of a sync, and each piece of a call, by what it leaves: a device with which the call goes on, or the end of the call.
use Rattle.std.specs.Prelude.{◌≡◌, ◌⊎◌, ◌↔◌, ◌≤◌, ◌++◌, ℕ, Bool, IsTrue, List, [], ◌∷◌, None}
use Rattle.rand_chacha.specs.ChaCha.{ChaCha}
use Rattle.sn_conflict.specs.declared.error.CheckError.{CheckError}
use Rattle.sn_conflict.specs.declared.error.CheckError.TheVariants as wrong
use Rattle.sn_disk.specs.Disk.{LeavesOnly}
use Rattle.sn_disk.specs.declared.disk.Disk.{Ghosts}
use Rattle.sn_io.specs.Causes.{Rose}
use Rattle.sn_journal.specs.declared.owner.Owner.TheVariants.{Device as DeviceOwner}
use Rattle.sn_net.specs.Exchanges.{Exchange}
use Rattle.sn_rows.specs.Table.{Rows, rows_after}
use Rattle.sn_rows.specs.declared.change.Change.{Change}
use Rattle.sn_rows.specs.declared.key.Key.TheVariants as key
use Rattle.sn_rows.specs.declared.key.Slot.TheVariants.{Asked}
use Rattle.sn_sync.specs.declared.answer.Answer.{Answer}
use Rattle.sn_sync.specs.declared.item.Item.{Item}
use Rattle.sn_sync.specs.declared.request.Request.{Request}
use Rattle.sn_sync.specs.declared.request.Request.TheVariants as request
use Rattle.sn_table.specs.Batches.{IsStore}
use Rattle.sn_table.specs.Kept.{Kept, with_batch}
use Rattle.sn_exchange.specs.Asked.{AsksOnce}
use Rattle.sn_device.specs.Asking.{Reply, said}
use Rattle.sn_client.specs.Calls.{Ends, IfBroken, IfStands, IsOpen, MayHave, called_disk, device_disk, device_rows, kept_done}
use Rattle.sn_device.specs.Runs.{Act, AreExchanges, EndsBehind, EndsUnapplied, Given, Halt, IsBatch, IsCheckPlace, IsDue, IsLeft, IsRound, Point, Round, Standing, Turn, Wants, acts_of, asked, goes_on, is_over, most_exchanges, nothing}
use Rattle.sn_device.specs.Sending.{AreOfRows}
use Rattle.sn_device.specs.States.{Bytes, IsSound}
use Rattle.sn_device.specs.Steps.{Step, applies}
use Rattle.sn_client.specs.declared.called.Called.{Called}
use Rattle.sn_client.specs.declared.called.Called.TheVariants as called
use Rattle.sn_client.specs.declared.device.Device.{Device}
use Rattle.sn_device.specs.declared.error.ClientError.{ClientError}
use Rattle.sn_device.specs.declared.error.ClientError.TheVariants as refusal
use Rattle.sn_client.specs.declared.syncing.Exchanged.{Exchanged}
use Rattle.sn_client.specs.declared.syncing.Exchanged.TheVariants as exchanged
use Rattle.sn_client.specs.declared.piece_end.PieceEnd.{PieceEnd}
use Rattle.sn_client.specs.declared.piece_end.PieceEnd.TheVariants as went

abbrev pub gives_nothing : {T : Type 0} → T → Given
gives_nothing given = nothing

-- the refusal for a check that fails; memory may be wanting for it
abbrev pub IsCheckRefusal : CheckError → ClientError → Type 0
IsCheckRefusal wrong.Memory why = why ≡ refusal.Memory
IsCheckRefusal e why = (at : _) × IsCheckPlace e at × (why ≡ refusal.BadAnswer at)

-- a sync of items that were sent of these rows
pub record IsSyncFrom (rows : Rows) (r : Request) : Type 0 where
  pub token : Bytes
  pub items : List Item
  pub limit : ℕ
  pub sync_token : _
  pub cursor_token : _
  pub is : r ≡ request.Sync token items limit sync_token cursor_token
  pub of_rows : AreOfRows rows items

module _ {D : Type 0} {g : Ghosts D} where
  -- what a call keeps of a device: sound rows, the least cost, and a disk that goes on, with a fault more where it failed
  pub record KeepsDevice {T : Type 0} (old : Device D g) (result : Called (Device D g) D T) : Type 0 where
    pub sound : IfStands result (λ device. IsSound (device_rows device))
    pub least : IfStands result (λ device. device.least_cost ≡ old.least_cost)
    pub fault : IfBroken result (λ disk. Rose (g.fault_count (device_disk old)) (g.fault_count disk))
    pub grows : g.grows (device_disk old) (called_disk device_disk result)
    pub later : g.fault_count (device_disk old) ≤ g.fault_count (called_disk device_disk result)

  -- the end of a call, or a device behind an exchange as one that is refused
  abbrev pub called_of : {T : Type 0} → Exchanged (Device D g) D T → Called (Device D g) D T
  called_of (exchanged.Applied device more) = called.Refused device refusal.RoundsUsed
  called_of (exchanged.Ended result) = result

-- ---- a crash in a call

-- these bytes stand for the batches of one, and for a front of those that the other has more
pub record IsBetween (old new : Kept) (c : List ℕ) : Type 0 where
  pub made : List (List Change)
  pub later : List (List Change)
  pub split : new.batches ≡ (old.batches ++ made) ++ later
  pub stands : IsStore DeviceOwner c (old.batches ++ made)

module _ {D : Type 0} {g : Ghosts D} where
  -- it has what is kept now, and a crash since the old device had the kept leaves batches between them
  pub record IsOpenSince (old : Device D g) (kept : Kept) (device : Device D g) (now : Kept) : Type 0 where
    pub opens : IsOpen device now
    pub each : g.told → LeavesOnly g.moment g.left_since (device_disk old) (device_disk device) (IsBetween kept now)

  -- the same of a disk that failed in a commit
  pub record MayHaveSince (old : Device D g) (kept : Kept) (disk : D) (now : Kept) (changes : List Change) : Type 0 where
    pub may : MayHave g.told g.may_leave disk now changes
    pub each : g.told → LeavesOnly g.moment g.left_since (device_disk old) disk (IsBetween kept (with_batch now changes))

-- memory was wanting before the request; or its reply, or what the answer changes, ends the call
abbrev pub EndsAsking : Kept → ChaCha → Request → List Act → Halt → Type 0
EndsAsking kept words r acts halt = Wants acts halt
    ⊎ ((reply : Reply) × (acts ≡ asked r reply ∷ []) × EndsBehind kept.rows words r reply halt)

module _ {S : Type 0} (is_open : S → Kept → Type 0) where
  -- the answer to a request is applied in one commit, and something is left or not
  pub record IsAppliedBy (kept : Kept) (words : ChaCha) (r : Request) (given : Answer) (left : ChaCha) (device : S) (more : Bool) : Type 0 where
    pub changes : List Change
    pub step : Step kept.rows words (applies r given) changes left
    pub batch : IsBatch changes
    pub stands : is_open device (with_batch kept changes)
    pub is_more : IsTrue more ↔ IsLeft (rows_after kept.rows changes) given

  -- a request is asked, and its answer is applied
  pub record AsksAndApplies (kept : Kept) (words : ChaCha) (r : Request) (host : Bytes) (asks : List Exchange → Type 0) (left : ChaCha) (device : S)
      (more : Bool) : Type 0 where
    pub given : Answer
    pub asked_once : AsksOnce asks host r (said given)
    pub applied : IsAppliedBy kept words r given left device more

  -- an exchange is made: the sync stands behind this round, and another exchange is due or not
  pub record AppliesOne (kept : Kept) (at : Standing) (host : Bytes) (asks : List Exchange → Type 0) (left : ChaCha) (device : S) (more : Bool) : Type 0 where
    pub round : Round
    pub after : Standing
    pub is : IsRound at round after
    pub words_are : after.words ≡ left
    pub is_more : IsTrue more ↔ IsDue after.rows after.last
    pub exchanges : List Exchange
    pub are : AreExchanges host (acts_of round) exchanges
    pub asked_so : asks exchanges
    pub stands : is_open device (kept_done kept (acts_of round))

module _ {S D T : Type 0} (is_open : S → Kept → Type 0) (may_have : D → Kept → List Change → Type 0) where
  -- ---- the answer to a request

  -- what it changes isn't committed
  pub record IsUnappliedBy (kept : Kept) (words : ChaCha) (r : Request) (given : Answer) (left : ChaCha) (result : Called S D T) : Type 0 where
    pub halt : Halt
    pub so : EndsBehind kept.rows words r (said given) halt
    pub ends : Ends is_open may_have gives_nothing kept [] halt left result

  abbrev pub IsApplied : Kept → ChaCha → Request → Answer → ChaCha → Exchanged S D T → Type 0
  IsApplied kept words r given left (exchanged.Applied device more) = IsAppliedBy is_open kept words r given left device more
  IsApplied kept words r given left (exchanged.Ended result) = IsUnappliedBy kept words r given left result

  -- ---- a request and its answer

  pub record EndsAsked (kept : Kept) (words : ChaCha) (r : Request) (host : Bytes) (asks : List Exchange → Type 0) (left : ChaCha)
      (result : Called S D T) : Type 0 where
    pub acts : List Act
    pub halt : Halt
    pub so : EndsAsking kept words r acts halt
    pub exchanges : List Exchange
    pub are : AreExchanges host acts exchanges
    pub asked_so : asks exchanges
    pub ends : Ends is_open may_have gives_nothing kept acts halt left result

  abbrev pub IsAskedAndApplied : Kept → ChaCha → Request → Bytes → (List Exchange → Type 0) → ChaCha → Exchanged S D T → Type 0
  IsAskedAndApplied kept words r host asks left (exchanged.Applied device more) = AsksAndApplies is_open kept words r host asks left device more
  IsAskedAndApplied kept words r host asks left (exchanged.Ended result) = EndsAsked kept words r host asks left result

  -- ---- an exchange

  -- it ends the call
  pub record EndsOne (kept : Kept) (at : Standing) (host : Bytes) (asks : List Exchange → Type 0) (left : ChaCha) (result : Called S D T) : Type 0 where
    pub acts : List Act
    pub halt : Halt
    pub so : EndsUnapplied at acts halt ⊎ Wants acts halt
    pub exchanges : List Exchange
    pub are : AreExchanges host acts exchanges
    pub asked_so : asks exchanges
    pub ends : Ends is_open may_have gives_nothing kept acts halt left result

  abbrev pub IsExchanged : Kept → Standing → Bytes → (List Exchange → Type 0) → ChaCha → Exchanged S D T → Type 0
  IsExchanged kept at host asks left (exchanged.Applied device more) = AppliesOne is_open kept at host asks left device more
  IsExchanged kept at host asks left (exchanged.Ended result) = EndsOne kept at host asks left result

-- ---- a piece of a call

-- what became of it as a call: one that goes on is taken as one that is refused
abbrev pub called_past : {S D T : Type 0} → PieceEnd S D T → Called S D T
called_past (went.On device made) = called.Refused device refusal.RoundsUsed
called_past (went.Over result) = result

-- as a call of which nothing is left
abbrev pub IsAnsweredPast : {S D T : Type 0} → PieceEnd S D T → Called S D T → Type 0
IsAnsweredPast {T = T} (went.On device made) result = (given : T) × (result ≡ called.Done device given)
IsAnsweredPast (went.Over ended) result = result ≡ ended

-- the device, where the call goes on
abbrev pub IfOn : {S D T : Type 0} → PieceEnd S D T → (S → Type 0) → Type 0
IfOn (went.On device made) P = P device
IfOn (went.Over result) P = Unit {0}

-- the exchanges that were made, where it goes on, are no more than a call makes
abbrev pub MadeAtMost : {S D T : Type 0} → PieceEnd S D T → Type 0
MadeAtMost (went.On device made) = made ≤ most_exchanges
MadeAtMost (went.Over result) = Unit {0}

-- nothing is asked
abbrev pub none_asked : List Exchange → Type 0
none_asked exchanges = exchanges ≡ []

module _ {S : Type 0} (is_open : S → Kept → Type 0) (piece : Point → List Act → Turn → Type 0) (p : Point) (kept : Kept) (host : Bytes)
    (asks : List Exchange → Type 0) (left : ChaCha) where
  -- from the point the call goes on, with so many exchanges made, and the device has what the acts leave
  pub record GoesThere (device : S) (made : ℕ) : Type 0 where
    pub acts : List Act
    pub goes : piece p acts (goes_on (record { made = made; rows = (kept_done kept acts).rows; words = left }))
    pub exchanges : List Exchange
    pub are : AreExchanges host acts exchanges
    pub asked_so : asks exchanges
    pub stands : is_open device (kept_done kept acts)

module _ {S D T : Type 0} (is_open : S → Kept → Type 0) (may_have : D → Kept → List Change → Type 0) (piece : Point → List Act → Turn → Type 0) (p : Point)
    (kept : Kept) (host : Bytes) (asks : List Exchange → Type 0) (left : ChaCha) where
  -- the call ends there
  pub record EndsThere (result : Called S D T) : Type 0 where
    pub acts : List Act
    pub halt : Halt
    pub so : piece p acts (is_over halt)
    pub exchanges : List Exchange
    pub are : AreExchanges host acts exchanges
    pub asked_so : asks exchanges
    pub ends : Ends is_open may_have gives_nothing kept acts halt left result

  -- either, with the exchanges that the link tells
  abbrev pub WentBy : PieceEnd S D T → Type 0
  WentBy (went.On device made) = GoesThere is_open piece p kept host asks left device made
  WentBy (went.Over result) = EndsThere result
