-- The requests of a device are within the bounds of those that are read: of which rows, and in which calls.
use Rattle.std.specs.Prelude.{◌≡◌, ℕ, List, [], ◌∷◌, ◌++◌}
use Rattle.std.specs.Str.{IsUtf8}
use Rattle.rand_chacha.specs.ChaCha.{ChaCha}
use Rattle.sn_device.specs.Runs.{Act, Call, Halt, Run, Sends, asked, commits as committed, content, delete, edit, list, passwd, put, register, rows_done, sign_in, sync}
use Rattle.sn_device.specs.States.{HasLocal, HasSet, IsSound}
use Rattle.sn_device.specs.Steps.{Step, What, adopts, applies, asks, begins, deletes, edits, forgets, posts, puts, renews}
use Rattle.sn_rows.specs.Table.{Rows, no_rows, rows_after}
use Rattle.sn_rows.specs.declared.change.Change.{Change}
use Rattle.sn_rows.specs.declared.device_rows.LocalItem.{LocalItem}
use Rattle.sn_rows.specs.declared.device_rows.SetRow.{SetRow}
use Rattle.sn_rows.specs.declared.key.Slot.{Slot}
use Rattle.sn_string.specs.Bounds.{IsIdentifier}
use Rattle.sn_sync.specs.Fits.{AreBytes, FitsRequest}
use Rattle.sn_sync.specs.declared.request.Request.{Request}

-- ---- rows: types, identifiers, costs and nonces are within their bounds in each; of uuids and keys no row says that they have their lengths

-- the uuid of each item has 16 bytes
abbrev pub FitsUuids : Rows → Type 0
FitsUuids rows = (number : ℕ) (local : LocalItem) → HasLocal rows number local → AreBytes 16 local.uuid

-- the server's password of each set has 32
abbrev pub FitsPasswords : Rows → Type 0
FitsPasswords rows = (slot : Slot) (keys : SetRow) → HasSet rows slot keys → AreBytes 32 keys.pw

-- sound rows of which both hold
pub record FitsRows (rows : Rows) : Type 0 where
  pub sound : IsSound rows
  pub uuids : FitsUuids rows
  pub passwords : FitsPasswords rows

-- ---- acts

-- the server's password of a set that a commit keeps has 32 bytes
abbrev pub FitsWhat : What → Type 0
FitsWhat (begins set account token) = AreBytes 32 set.pw
FitsWhat (renews token) = Unit {0}
FitsWhat (puts uuid kind text) = Unit {0}
FitsWhat (edits uuid text) = Unit {0}
FitsWhat (deletes uuid) = Unit {0}
FitsWhat (posts numbers) = Unit {0}
FitsWhat (applies request given) = Unit {0}
FitsWhat (asks set) = AreBytes 32 set.pw
FitsWhat (adopts set token) = AreBytes 32 set.pw
FitsWhat forgets = Unit {0}

-- it is so of each set that is kept, and each request is within the bounds of one that is read
abbrev pub AreFitting : List Act → Type 0
AreFitting [] = Unit {0}
AreFitting (committed what changes ∷ acts) = FitsWhat what × AreFitting acts
AreFitting (asked r reply ∷ acts) = FitsRequest r × AreFitting acts

-- the words of a call: an identifier that is signed in with has 1 to 254 bytes of UTF-8; no other call needs anything of its words
abbrev pub FitsCall : Call → Type 0
FitsCall (register identifier password cost) = Unit {0}
FitsCall (sign_in identifier password) = IsIdentifier identifier × IsUtf8 identifier
FitsCall (put kind text) = Unit {0}
FitsCall (edit uuid text) = Unit {0}
FitsCall (delete uuid) = Unit {0}
FitsCall list = Unit {0}
FitsCall (content uuid) = Unit {0}
FitsCall sync = Unit {0}
FitsCall (passwd password cost) = Unit {0}

-- ---- the laws, of any server

-- a fresh device's rows are so
abbrev pub FreshFits : Type 0
FreshFits = FitsRows no_rows

-- each commit leaves uuids so, whatever set it keeps
abbrev pub StepsFitUuids : Type 0
StepsFitUuids = (rows : Rows) (words left : ChaCha) (what : What) (changes : List Change) → IsSound rows → FitsUuids rows → Step rows words what changes left
    → FitsUuids (rows_after rows changes)

-- and sound rows with passwords so too, where that set's is
abbrev pub StepsFit : Type 0
StepsFit = (rows : Rows) (words left : ChaCha) (what : What) (changes : List Change) → FitsRows rows → FitsWhat what → Step rows words what changes left
    → FitsRows (rows_after rows changes)

-- what a round of a sync sends is within the bounds of what is read
abbrev pub SendsFit : Type 0
SendsFit = (rows : Rows) (numbers : List ℕ) (posted : List Change) (r : Request) (ready : Rows) → FitsUuids rows → Sends rows numbers posted r ready
    → FitsRequest r

-- whatever a server answers, each request of a call is within the bounds of one that is read, and so is each set that it keeps
abbrev pub RequestsFit : Type 0
RequestsFit = (least : ℕ) (call : Call) (rows : Rows) (words : ChaCha) (acts : List Act) (halt : Halt) → FitsCall call → FitsRows rows
    → Run least call rows words acts halt → AreFitting acts

-- and whichever first acts of a call are done, the next one finds such rows
abbrev pub RunsStayFitting : Type 0
RunsStayFitting = (least : ℕ) (call : Call) (rows : Rows) (words : ChaCha) (acts : List Act) (halt : Halt) (front later : List Act) → FitsCall call → FitsRows rows
    → Run least call rows words acts halt → acts ≡ front ++ later → FitsRows (rows_done rows front)
