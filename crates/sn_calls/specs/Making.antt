-- A call that is made on a loaded device: its run, what it asked, what it gave, and what a crash leaves behind it.
use Rattle.std.specs.Prelude.{◌≡◌, ℕ, List, Bool, true, false, Option, Some, None, Result, Ok, Err, ⊤}
use Rattle.rand_chacha.specs.ChaCha.{ChaCha, of_seed}
use Rattle.sn_client.specs.Calls.{MayHave, kept_done}
use Rattle.sn_device.specs.Runs.{Act, AreExchanges, Call, Halt, Run, answered, broken, refused}
use Rattle.sn_device.specs.States.{Bytes}
use Rattle.sn_device.specs.Steps.{What}
use Rattle.sn_client.specs.declared.called.Called.{Called}
use Rattle.sn_client.specs.declared.called.Called.TheVariants as called
use Rattle.sn_device.specs.declared.error.ClientError.{ClientError}
use Rattle.sn_disk.specs.declared.disk.Disk.{Ghosts}
use Rattle.sn_io.specs.Streams.{Gains}
use Rattle.sn_journal.specs.declared.owner.Owner.TheVariants.{Device as DeviceOwner}
use Rattle.sn_net.specs.Exchanges.{Exchange}
use Rattle.sn_rows.specs.declared.change.Change.{Change}
use Rattle.sn_table.specs.Batches.{IsStore}
use Rattle.sn_table.specs.Kept.{Kept}
use Rattle.sn_calls.specs.Parts.{given_of}
use Rattle.sn_calls.specs.declared.ends.Answered.{Answered}
use Rattle.sn_calls.specs.declared.ends.CallEnd.{CallEnd}
use Rattle.sn_calls.specs.declared.ends.CallEnd.TheVariants as end

-- For a call that draws, one seed was drawn, and this holds of its words. For another none was, and it holds of any words.
abbrev pub Draws : {R : Type 0} → (R → Option (List (List ℕ))) → Bool → R → R → (ChaCha → Type 0) → Type 0
Draws drawn true old new P = (seed : List ℕ) × Gains (drawn old) (drawn new) seed × P (of_seed seed)
Draws drawn false old new P = (new ≡ old) × ((words : ChaCha) → P words)

-- What was asked of a link: nothing, of a call that asks no host; else just the requests of these acts, of this host and in
-- order, as the link tells its exchanges.
abbrev pub HasAsked : {L : Type 0} → (L → L → List Exchange → Type 0) → (L → Bytes) → Option Bytes → L → L → List Act → Type 0
HasAsked asks aimed None old new acts = new ≡ old
HasAsked asks aimed (Some host) old new acts = (aimed new ≡ host) × (exchanges : List Exchange) × AreExchanges host acts exchanges × asks old new exchanges

-- the link is aimed at this server, where one is asked
abbrev pub IsAimed : Option Bytes → Bytes → Type 0
IsAimed None aimed = ⊤
IsAimed (Some host) aimed = aimed ≡ host

-- how a call of a device ends, as it says it
abbrev pub end_called : {S D T : Type 0} → (T → Answered) → Called S D T → CallEnd
end_called says (called.Done device given) = end.Answered (says given)
end_called says (called.Refused device why) = end.Refused why
end_called says (called.Broken disk) = end.DiskFault

abbrev pub end_told : {T : Type 0} → (T → Answered) → Result T ClientError → CallEnd
end_told says (Ok given) = end.Answered (says given)
end_told says (Err why) = end.Refused why

module _ {D : Type 0} (g : Ghosts D) where
  -- each crash leaves these batches
  abbrev pub EachStands : D → List (List Change) → Type 0
  EachStands disk batches = (c : List ℕ) → g.may_leave disk c → IsStore DeviceOwner c batches

  -- The run ended so. A disk that tells its bytes has what the acts left; where it failed in a commit, all or nothing of that more.
  abbrev pub HasEnded : Kept → List Act → Halt → D → CallEnd → Type 0
  HasEnded kept acts halt back (end.Answered given) = (left : ChaCha) × (halt ≡ answered (given_of given) left) × (g.told → EachStands back (kept_done kept acts).batches)
  HasEnded kept acts halt back (end.Refused why) = (halt ≡ refused why) × (g.told → EachStands back (kept_done kept acts).batches)
  HasEnded kept acts halt back (end.Foreign place) = ⊥
  HasEnded kept acts halt back (end.Damaged place) = ⊥
  HasEnded kept acts halt back (end.Rows kind) = ⊥
  HasEnded kept acts halt back end.DiskFault = (what : What) × (changes : List Change) × (halt ≡ broken what changes)
      × MayHave g.told g.may_leave back (kept_done kept acts) changes
  HasEnded kept acts halt back end.LinkFault = ⊥
  HasEnded kept acts halt back end.Memory = ⊥

  module _ {L : Type 0} (asks : L → L → List Exchange → Type 0) (aimed : L → Bytes) (call : Call) (server : Option Bytes) (least : ℕ) (old new : L) where
    -- The call was made on a device that had this, with these words: what it did and asked, and how it ended.
    pub record HasRun (kept : Kept) (words : ChaCha) (back : D) (ends : CallEnd) : Type 0 where
      pub acts : List Act
      pub halt : Halt
      pub runs : Run least call kept.rows words acts halt
      pub asked : HasAsked asks aimed server old new acts
      pub ended : HasEnded kept acts halt back ends
