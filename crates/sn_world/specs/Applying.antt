-- An answer to a sync is applied; and the moves that this says.
use Rattle.std.specs.Prelude.{◌≡◌, ◌⊎◌, ℕ, Bool, true, false, List, [], ◌∷◌, ◌++◌, length, Option, Some, None}
use Rattle.std.proofs.Common.{inl, inr}
use Rattle.std.specs.List.{Contains}
use Rattle.rand_chacha.specs.ChaCha.{ChaCha}
use Rattle.sn_account.specs.Syncs.{IsStampOf, above_of, is_first}
use Rattle.sn_account.specs.Tells.{TellsRows}
use Rattle.sn_device.specs.States.{HasItem, HasOwner, HasSets, IsFree, owner_columns, token_of}
use Rattle.sn_adopted.specs.Moves.{IsRetiring}
use Rattle.sn_device.specs.Steps.{PutsOwner, Retires, start, with_tokens}
use Rattle.sn_device.specs.Taking.{Copies, MakesRow, Meets, Progress, Renames, TakesVersion, Told, is_conflict, is_retrieved, is_saved, told_by}
use Rattle.sn_conflict.specs.Meetings.{MeetsAs}
use Rattle.sn_conflict.specs.declared.meeting.Meeting.{Meeting}
use Rattle.sn_conflict.specs.declared.meeting.Meeting.TheVariants as meeting
use Rattle.sn_laws.specs.Each.{Each}
use Rattle.sn_laws.specs.Lookups.{Bytes, device_named, greatest}
use Rattle.sn_laws.specs.declared.ideal.Account.{Account}
use Rattle.sn_laws.specs.declared.ideal.Device.{Device}
use Rattle.sn_laws.specs.declared.ideal.Ideal.{Ideal}
use Rattle.sn_laws.specs.declared.moves.Move.{Move}
use Rattle.sn_laws.specs.declared.moves.Move.TheVariants.{Drop, Fork, GiveWay, Rename, Settle, SettlePosted}
use Rattle.sn_rows.specs.Table.{Rows}
use Rattle.sn_rows.specs.declared.body.RowBody.{RowBody}
use Rattle.sn_rows.specs.declared.body.RowBody.TheVariants as row
use Rattle.sn_rows.specs.declared.change.Change.{Change}
use Rattle.sn_rows.specs.declared.device_rows.LocalItem.{LocalItem}
use Rattle.sn_rows.specs.declared.device_rows.OwnerRow.{OwnerRow}
use Rattle.sn_sets.specs.declared.sets.Sets.{Sets}
use Rattle.sn_shows.specs.Servers.{account_at}
use Rattle.sn_shows.specs.Sets.{set_at}
use Rattle.sn_string.specs.declared.params.KeySet.{KeySet}
use Rattle.sn_string.specs.declared.params.Params.{Params}
use Rattle.sn_sync.specs.Versions.{NamesStamp, uuids}
use Rattle.sn_sync.specs.declared.answer.Answer.{Answer}
use Rattle.sn_sync.specs.declared.answer.Answer.TheVariants as answer
use Rattle.sn_sync.specs.declared.answer.Conflict.{Conflict}
use Rattle.sn_sync.specs.declared.answer.Conflict.TheVariants as conflict
use Rattle.sn_sync.specs.declared.item.Item.{Item}
use Rattle.sn_sync.specs.declared.request.Request.{Request}
use Rattle.sn_sync.specs.declared.request.Request.TheVariants as request
use Rattle.sn_world.specs.Making.{IsSentOf}

-- ---- one version

-- what is done where it meets a row, and the moves that this says: a row without a draft takes it without a move; a draft that it has the content of is
-- settled, and so is what was sent of a draft; a deletion gives way; any other draft that can be read forks, under the uuid that its copy gets
abbrev pub SaysMeets : Bytes → Sets → Progress → ℕ → LocalItem → Item → Meeting → Progress → List Move → Type 0
SaysMeets name sets p number local i meeting.Same q moves = Meets sets p number local i meeting.Same q × (moves ≡ [])
SaysMeets name sets p number local i meeting.Take q moves = Meets sets p number local i meeting.Take q × (moves ≡ [])
SaysMeets name sets p number local i (meeting.Own true) q moves = Meets sets p number local i (meeting.Own true) q × (moves ≡ Settle name i.uuid ∷ [])
SaysMeets name sets p number local i (meeting.Own false) q moves =
    Meets sets p number local i (meeting.Own false) q × ((stamp : ℕ) × NamesStamp i stamp × (moves ≡ SettlePosted name i.uuid stamp ∷ []))
SaysMeets name sets p number local i meeting.GiveWay q moves = Meets sets p number local i meeting.GiveWay q × (moves ≡ GiveWay name i.uuid ∷ [])
SaysMeets name sets p number local i meeting.Fork q moves =
    (r : Progress) × (copies : Copies sets p local r) × TakesVersion sets r number i None None q × (moves ≡ Fork name i.uuid copies.uuid ∷ [])

-- it meets the row of its item, or makes one
abbrev pub SaysServer : Bytes → Sets → Progress → Item → Bool → Progress → List Move → Type 0
SaysServer name sets p i saved q moves =
    ((number : ℕ) × (local : LocalItem) × (how : Meeting) × HasItem p.rows i.uuid number local × MeetsAs sets local i saved how
    × SaysMeets name sets p number local i how q moves)
    ⊎ (IsFree p.rows i.uuid × MakesRow sets p i i.body q × (moves ≡ []))

-- ---- another account has the uuid

-- what this says: a deletion is dropped, a draft that can be read goes on under the uuid that is drawn, and any other stays
abbrev pub renaming : Bytes → (sets : Sets) (p : Progress) (number : ℕ) (local : LocalItem) (latest : Option RowBody) (q : Progress)
    → Renames sets p number local latest q → List Move
renaming name sets p number local None q same = []
renaming name sets p number local (Some row.Deleted) q gone = Drop name local.uuid ∷ []
renaming name sets p number local (Some (row.Sealed strings)) q (inl closed) = []
renaming name sets p number local (Some (row.Sealed strings)) q (inr anew) = Rename name local.uuid anew.1 ∷ []

abbrev pub SaysForeign : Bytes → Sets → Progress → Bytes → Progress → List Move → Type 0
SaysForeign name sets p uuid q moves =
    ((number : ℕ) × (local : LocalItem) × HasItem p.rows uuid number local × (how : Renames sets p number local local.latest q)
    × (moves ≡ renaming name sets p number local local.latest q how))
    ⊎ (IsFree p.rows uuid × (q ≡ p) × (moves ≡ []))

-- ---- all of them

-- of all that an answer tells; a retrieved version that the answer saves too is passed over. That what was sent isn't of the account's present set is no
-- move: the server that is told answers so of nothing that a device sends
abbrev pub SaysTold : Bytes → Sets → List Item → Progress → Told → Progress → List Move → Type 0
SaysTold name sets saved p (is_saved i) q moves = SaysServer name sets p i true q moves
SaysTold name sets saved p (is_conflict (conflict.Sync server)) q moves = SaysServer name sets p server false q moves
SaysTold name sets saved p (is_conflict (conflict.Uuid unsaved)) q moves = SaysForeign name sets p unsaved.uuid q moves
SaysTold name sets saved p (is_conflict (conflict.Content unsaved)) q moves = ⊥
SaysTold name sets saved p (is_retrieved i) q moves =
    (Contains (uuids saved) i.uuid × (q ≡ p) × (moves ≡ [])) ⊎ (¬ (Contains (uuids saved) i.uuid) × SaysServer name sets p i false q moves)

-- one after another
abbrev pub SaysAllTold : Bytes → Sets → List Item → Progress → List Told → Progress → List Move → Type 0
SaysAllTold name sets saved p [] q moves = (q ≡ p) × (moves ≡ [])
SaysAllTold name sets saved p (t ∷ ts) q moves =
    (r : Progress) × (first : List Move) × (later : List Move) × SaysTold name sets saved p t r first × SaysAllTold name sets saved r ts q later
    × (moves ≡ first ++ later)

-- ---- the whole answer

-- what it tells, then its tokens and the next local number, and then the end of the older set, where it may go, in one commit of a device that holds these
-- sets
pub record SaysApplied (rows : Rows) (held : List ℕ) (name : Bytes) (conflicts : List Conflict) (cursor : Option Bytes) (retrieved saved : List Item) (token : Bytes)
    (changes : List Change) (moves : List Move) : Type 0 where
  pub owner : OwnerRow
  pub sets : Sets
  pub holds : HasSets rows owner sets
  pub words : ChaCha
  pub end : Progress
  pub first : List Move
  pub told : SaysAllTold name sets saved (start rows owner words) (told_by saved conflicts retrieved) end first
  pub counted : Change
  pub counted_is : PutsOwner counted (with_tokens end.next token cursor (owner_columns owner))
  pub retired : List Change
  pub retires : Retires end.rows cursor sets.older retired
  pub changes_are : changes ≡ end.changes ++ counted ∷ retired
  pub later : List Move
  pub retiring : IsRetiring end.rows cursor sets.older name held later
  pub moves_are : moves ≡ first ++ later

-- of an answer to a sync; no other is applied
abbrev pub SaysAnswer : Rows → List ℕ → Bytes → Answer → List Change → List Move → Type 0
SaysAnswer rows held name (answer.Sync conflicts cursor retrieved saved token) changes moves =
    SaysApplied rows held name conflicts cursor retrieved saved token changes moves
SaysAnswer rows held name (answer.Account token identifier uuid) changes moves = ⊥
SaysAnswer rows held name (answer.Params params) changes moves = ⊥
SaysAnswer rows held name (answer.Refused status tag more) changes moves = ⊥

-- ---- when it may be applied

-- the answer tells the server's rows as they are now, to this device's account, whose last set is the greatest that the device holds, for what was sent of
-- its rows
pub record Tells (server rows : Rows) (s : Ideal) (name : Bytes) (sent : List Item) (conflicts : List Conflict) (cursor : Option Bytes)
    (retrieved saved : List Item) (token : Bytes) : Type 0 where
  pub number : ℕ
  pub account : Account
  pub at : account_at number s.accounts ≡ Some account
  pub device : Device
  pub named : device_named s name ≡ Some device
  pub own : account.identifier ≡ device.account
  pub greatest_is : greatest 0 device.held ≡ length account.sets
  pub sent_of : Each (IsSentOf rows) sent
  -- the parameters of the account's last set
  pub present : Params
  pub params_are : (set : KeySet) → set_at (length account.sets) account.sets ≡ Some set → present ≡ set.params
  -- it tells them from the stamps of the device's tokens on
  pub sync : Option ℕ
  pub from : Option ℕ
  pub since : (owner : OwnerRow) → HasOwner rows owner → IsStampOf (token_of owner.sync_token) sync × IsStampOf (token_of owner.cursor_token) from
  pub tells : TellsRows server number present sent (above_of sync from) (is_first sync from) conflicts cursor retrieved saved token

-- an answer to a sync does; no other is applied
abbrev pub TellsNow : Rows → Rows → Ideal → Bytes → List Item → Answer → Type 0
TellsNow server rows s name sent (answer.Sync conflicts cursor retrieved saved token) = Tells server rows s name sent conflicts cursor retrieved saved token
TellsNow server rows s name sent (answer.Account token identifier uuid) = ⊥
TellsNow server rows s name sent (answer.Params params) = ⊥
TellsNow server rows s name sent (answer.Refused status tag more) = ⊥

-- by the request that is answered
abbrev pub MayApply : Rows → Rows → Ideal → Bytes → Request → Answer → Type 0
MayApply server rows s name (request.Sync token items limit sync_token cursor_token) given = TellsNow server rows s name items given
MayApply server rows s name (request.Register params pw) given = ⊥
MayApply server rows s name (request.Params identifier) given = ⊥
MayApply server rows s name (request.SignIn identifier pw) given = ⊥
MayApply server rows s name (request.ChangePw token current pw cost nonce) given = ⊥
