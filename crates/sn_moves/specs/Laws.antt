-- What a commit of a device says is what these functions compute.
use Rattle.std.specs.Prelude.{◌≡◌, ℕ, List, length, Option, Some, None}
use Rattle.rand_chacha.specs.ChaCha.{ChaCha}
use Rattle.sn_device.specs.States.{AreSoundLocals, HasLocal}
use Rattle.sn_device.specs.Steps.{Step, What, adopts, applies, asks, begins, deletes, edits, forgets, posts, puts, renews}
use Rattle.sn_laws.specs.Lookups.{Bytes, account_named}
use Rattle.sn_laws.specs.declared.ideal.Account.{Account}
use Rattle.sn_laws.specs.declared.ideal.Ideal.{Ideal}
use Rattle.sn_laws.specs.declared.moves.Move.{Move}
use Rattle.sn_rows.specs.Table.{Rows}
use Rattle.sn_rows.specs.declared.body.RowBody.TheVariants as row
use Rattle.sn_rows.specs.declared.change.Change.{Change}
use Rattle.sn_rows.specs.declared.device_rows.LocalItem.{LocalItem}
use Rattle.sn_rows.specs.declared.key.Key.TheVariants as key
use Rattle.sn_rows.specs.declared.key.Slot.TheVariants.{Older}
use Rattle.sn_sync.specs.declared.answer.Answer.TheVariants as answer
use Rattle.sn_sync.specs.declared.answer.Conflict.{Conflict}
use Rattle.sn_sync.specs.declared.item.Item.{Item}
use Rattle.sn_sync.specs.declared.request.Request.{Request}
use Rattle.sn_world.specs.Applying.{SaysApplied}
use Rattle.sn_world.specs.Committing.{Commits, MayCommit, SaysCommit}
use Rattle.sn_world.specs.Plain.{HoldsPlain}
use Rattle.sn_world.specs.World.{World}
use Rattle.sn_moves.specs.Commits.{moves_of}
use Rattle.sn_moves.specs.Foreign.{foreign_in}
use Rattle.sn_moves.specs.declared.done.Done.{Done}
use Rattle.sn_moves.specs.declared.done.Done.TheVariants as done

-- ---- what was done, of all that a commit is

-- a device begins with the number of its account's sets; a change of password isn't among it
abbrev pub IsDone : Ideal → What → Done → Type 0
IsDone s (begins set uuid token) what =
    (a : Account) × (account_named s set.params.identifier ≡ Some a) × (what ≡ done.Begins set.params.identifier (length a.sets))
IsDone s (renews token) what = what ≡ done.Renews
IsDone s (puts uuid kind text) what = what ≡ done.Puts uuid kind text
IsDone s (edits uuid text) what = what ≡ done.Edits text
IsDone s (deletes uuid) what = what ≡ done.Deletes
IsDone s (posts numbers) what = what ≡ done.Posts
IsDone s (applies request given) what = what ≡ done.Applies (foreign_in given)
IsDone s (asks set) what = ⊥
IsDone s (adopts set token) what = ⊥
IsDone s forgets what = ⊥

-- ---- the law

-- where a deletion was sent of a row, its draft is still that
abbrev pub KeepsDeletions : Rows → Type 0
KeepsDeletions rows = (number : ℕ) (local : LocalItem) → HasLocal rows number local → local.posted ≡ Some row.Deleted → local.latest ≡ Some row.Deleted

-- no older set is held, which an answer could end
abbrev pub HoldsNoOlder : Rows → Type 0
HoldsNoOlder rows = rows (key.Set Older) ≡ None

-- a commit of a device whose items are sound and that holds no older set says one list of moves, and it is this one
abbrev pub SaysOne : Type 0
SaysOne = (rows : Rows) (s : Ideal) (name : Bytes) (words left : ChaCha) (what : What) (changes : List Change) (moves : List Move) (did : Done)
    → AreSoundLocals rows → KeepsDeletions rows → HoldsNoOlder rows → IsDone s what did → Step rows words what changes left → SaysCommit rows s name what changes moves
    → moves ≡ moves_of rows name did changes

-- of an answer that is applied the moves before the end of the older set are these, whatever sets the device holds
abbrev pub SaysAnswered : Type 0
SaysAnswered = (rows : Rows) (words left : ChaCha) (r : Request) (held : List ℕ) (name : Bytes) (conflicts : List Conflict) (cursor : Option Bytes)
    (retrieved saved : List Item) (token : Bytes) (changes : List Change) (moves : List Move) → AreSoundLocals rows → KeepsDeletions rows
    → Step rows words (applies r (answer.Sync conflicts cursor retrieved saved token)) changes left
    → (says : SaysApplied rows held name conflicts cursor retrieved saved token changes moves)
    → says.first ≡ moves_of rows name (done.Applies (foreign_in (answer.Sync conflicts cursor retrieved saved token))) changes

-- a commit that neither begins nor applies an answer, and is none of a change of password
abbrev pub IsPlainly : What → Type 0
IsPlainly (begins set uuid token) = ⊥
IsPlainly (renews token) = Unit {0}
IsPlainly (puts uuid kind text) = Unit {0}
IsPlainly (edits uuid text) = Unit {0}
IsPlainly (deletes uuid) = Unit {0}
IsPlainly (posts numbers) = Unit {0}
IsPlainly (applies request given) = ⊥
IsPlainly (asks set) = ⊥
IsPlainly (adopts set token) = ⊥
IsPlainly forgets = ⊥

-- such a commit says one list of moves, and it is this one, whatever sets the device holds
abbrev pub SaysPlainly : Type 0
SaysPlainly = (rows : Rows) (s : Ideal) (name : Bytes) (words left : ChaCha) (what : What) (changes : List Change) (moves : List Move) (did : Done)
    → AreSoundLocals rows → IsPlainly what → IsDone s what did → Step rows words what changes left → SaysCommit rows s name what changes moves
    → moves ≡ moves_of rows name did changes

-- in the world, where the invariant holds and no password has been changed, a commit says what is computed
abbrev pub SaysComputed : Type 0
SaysComputed = (secret : Bytes) (w next : World) (s : Ideal) (name : Bytes) (what : What) (changes : List Change) (did : Done)
    → HoldsPlain secret w s → Commits w next name what changes → MayCommit secret w.server (w.devices name) s name what → IsDone s what did
    → SaysCommit (w.devices name) s name what changes (moves_of (w.devices name) name did changes)
