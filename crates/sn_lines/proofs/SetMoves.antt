-- No commit of a device gives an account a set, and a request gives it the one that it would begin.
use Rattle.std.proofs.Common.{◌≡◌, ℕ, List, [], ◌∷◌, length, Option, Some, None, Bool, true, false, sym, subst, inl, inr}
use Rattle.std.specs.List.{AllZip}
use Rattle.sn_adopted.specs.Moves.{IsRetiring, adopting, reposting}
use Rattle.sn_device.specs.Steps.{What, adopts, applies, asks, begins, deletes, edits, forgets, posts, puts, renews}
use Rattle.sn_device.specs.Taking.{Progress, Renames, Told, is_conflict, is_retrieved, is_saved}
use Rattle.sn_conflict.specs.declared.meeting.Meeting.{Meeting}
use Rattle.sn_conflict.specs.declared.meeting.Meeting.TheVariants as meeting
use Rattle.sn_laws.proofs.Facts.{each_weaker}
use Rattle.sn_laws.specs.Each.{Each}
use Rattle.sn_laws.specs.Lookups.{Bytes, device_named, held_by}
use Rattle.sn_laws.specs.declared.ideal.Ideal.{Ideal}
use Rattle.sn_laws.specs.declared.moves.Move.{Move}
use Rattle.sn_laws.specs.declared.moves.Move.TheVariants.{Change as Changed, Register}
use Rattle.sn_lines.specs.Passwords.{IsOfPasswords}
use Rattle.sn_rows.specs.Table.{Rows, rows_after}
use Rattle.sn_rows.specs.declared.body.RowBody.{RowBody}
use Rattle.sn_rows.specs.declared.body.RowBody.TheVariants as row
use Rattle.sn_rows.specs.declared.change.Change.{Change}
use Rattle.sn_rows.specs.declared.change.Change.TheVariants.{Put, Remove}
use Rattle.sn_rows.specs.declared.device_rows.LocalItem.{LocalItem}
use Rattle.sn_rows.specs.declared.key.Key.{Key}
use Rattle.sn_rows.specs.declared.key.Key.TheVariants as key
use Rattle.sn_rows.specs.declared.server_rows.ItemRow.{ItemRow}
use Rattle.sn_rows.specs.declared.value.Value.{Value}
use Rattle.sn_rows.specs.declared.value.Value.TheVariants as value
use Rattle.sn_sets.specs.declared.sets.Sets.{Sets}
use Rattle.sn_string.specs.declared.params.KeySet.{KeySet}
use Rattle.sn_sync.specs.declared.answer.Answer.{Answer}
use Rattle.sn_sync.specs.declared.answer.Answer.TheVariants as answer
use Rattle.sn_sync.specs.declared.answer.Conflict.TheVariants as conflict
use Rattle.sn_sync.specs.declared.item.Item.{Item}
use Rattle.sn_sync.specs.declared.request.Request.{Request}
use Rattle.sn_sync.specs.declared.request.Request.TheVariants as request
use Rattle.sn_world.proofs.Facts.{each_both}
use Rattle.sn_world.specs.Applying.{SaysAllTold, SaysAnswer, SaysApplied, SaysForeign, SaysMeets, SaysServer, SaysTold, renaming}
use Rattle.sn_world.specs.Calls.{IsNoneOr}
use Rattle.sn_world.specs.Committing.{IsPostOf, SaysAdoption, SaysCommit, SaysDeletion}
use Rattle.sn_world.specs.Serving.{SaysChange, SaysChanges, SaysItem, SaysRoute, SaysRow, change_of, changes_in, registers_in}

-- the move gives no account a set
abbrev pub GivesNoSet : Move → Type 0
GivesNoSet (Register identifier set) = ⊥
GivesNoSet (Changed identifier number set) = ⊥
GivesNoSet m = Unit {0}

none_in : (moves : List Move) → moves ≡ [] → Each GivesNoSet moves
none_in moves is = subst (Each GivesNoSet) (sym is) tt

-- ---- an answer that is applied

meets_none : (name : Bytes) (sets : Sets) (p : Progress) (number : ℕ) (local : LocalItem) (i : Item) (how : Meeting) (q : Progress) (moves : List Move)
    → SaysMeets name sets p number local i how q moves → Each GivesNoSet moves
meets_none name sets p number local i meeting.Same q moves says = none_in moves says.1
meets_none name sets p number local i meeting.Take q moves says = none_in moves says.1
meets_none name sets p number local i (meeting.Own true) q moves says = subst (Each GivesNoSet) (sym says.1) (tt, tt)
meets_none name sets p number local i (meeting.Own false) q moves says = subst (Each GivesNoSet) (sym says.1.2) (tt, tt)
meets_none name sets p number local i meeting.GiveWay q moves says = subst (Each GivesNoSet) (sym says.1) (tt, tt)
meets_none name sets p number local i meeting.Fork q moves (r, copies, takes, is) = subst (Each GivesNoSet) (sym is) (tt, tt)

server_none : (name : Bytes) (sets : Sets) (p : Progress) (i : Item) (saved : Bool) (q : Progress) (moves : List Move)
    → SaysServer name sets p i saved q moves → Each GivesNoSet moves
server_none name sets p i saved q moves (inl (number, local, how, has, alike, says)) = meets_none name sets p number local i how q moves says
server_none name sets p i saved q moves (inr (free, makes, is)) = none_in moves is

renames_none : (name : Bytes) (sets : Sets) (p : Progress) (number : ℕ) (local : LocalItem) (latest : Option RowBody) (q : Progress)
    (how : Renames sets p number local latest q) → Each GivesNoSet (renaming name sets p number local latest q how)
renames_none name sets p number local None q how = tt
renames_none name sets p number local (Some row.Deleted) q how = (tt, tt)
renames_none name sets p number local (Some (row.Sealed strings)) q (inl closed) = tt
renames_none name sets p number local (Some (row.Sealed strings)) q (inr anew) = (tt, tt)

foreign_none : (name : Bytes) (sets : Sets) (p : Progress) (uuid : Bytes) (q : Progress) (moves : List Move) → SaysForeign name sets p uuid q moves
    → Each GivesNoSet moves
foreign_none name sets p uuid q moves (inl (number, local, has, how, is)) =
    subst (Each GivesNoSet) (sym is) (renames_none name sets p number local local.latest q how)
foreign_none name sets p uuid q moves (inr (free, same, is)) = none_in moves is

told_none : (name : Bytes) (sets : Sets) (saved : List Item) (p : Progress) (t : Told) (q : Progress) (moves : List Move)
    → SaysTold name sets saved p t q moves → Each GivesNoSet moves
told_none name sets saved p (is_saved i) q moves says = server_none name sets p i true q moves says
told_none name sets saved p (is_conflict (conflict.Sync server)) q moves says = server_none name sets p server false q moves says
told_none name sets saved p (is_conflict (conflict.Uuid unsaved)) q moves says = foreign_none name sets p unsaved.uuid q moves says
told_none name sets saved p (is_conflict (conflict.Content unsaved)) q moves says = absurd says
told_none name sets saved p (is_retrieved i) q moves (inl (among, same, is)) = none_in moves is
told_none name sets saved p (is_retrieved i) q moves (inr (other, says)) = server_none name sets p i false q moves says

all_told_none : (name : Bytes) (sets : Sets) (saved : List Item) (p : Progress) (ts : List Told) (q : Progress) (moves : List Move)
    → SaysAllTold name sets saved p ts q moves → Each GivesNoSet moves
all_told_none name sets saved p [] q moves says = none_in moves says.1
all_told_none name sets saved p (t ∷ ts) q moves (r, first, later, says, rest, is) =
    subst (Each GivesNoSet) (sym is)
    (each_both GivesNoSet first later (told_none name sets saved p t r first says) (all_told_none name sets saved r ts q later rest))

retiring_none : (told : Rows) (cursor : Option Bytes) (older : Option KeySet) (name : Bytes) (held : List ℕ) (moves : List Move)
    → IsRetiring told cursor older name held moves → Each GivesNoSet moves
retiring_none told cursor None name held moves is = none_in moves is
retiring_none told cursor (Some set) name held moves (inl (may, (old, present, are, is))) = subst (Each GivesNoSet) (sym is) (tt, tt)
retiring_none told cursor (Some set) name held moves (inr (may, is)) = none_in moves is

answer_none : (rows : Rows) (held : List ℕ) (name : Bytes) (given : Answer) (changes : List Change) (moves : List Move)
    → SaysAnswer rows held name given changes moves → Each GivesNoSet moves
answer_none rows held name (answer.Sync conflicts cursor retrieved saved token) changes moves says =
    let x : SaysApplied rows held name conflicts cursor retrieved saved token changes moves = says in
    subst (Each GivesNoSet) (sym x.moves_are)
    (each_both GivesNoSet x.first x.later (all_told_none name x.sets saved _ _ x.end x.first x.told)
    (retiring_none x.end.rows cursor x.sets.older name held x.later x.retiring))
answer_none rows held name (answer.Account token identifier uuid) changes moves says = absurd says
answer_none rows held name (answer.Params params) changes moves says = absurd says
answer_none rows held name (answer.Refused status tag more) changes moves says = absurd says

-- ---- any commit

adopting_none : (name identifier : Bytes) (number : ℕ) (held : List ℕ) → Each GivesNoSet (adopting name identifier number held)
adopting_none name identifier number [] = (tt, tt)
adopting_none name identifier number (g ∷ []) = (tt, tt)
adopting_none name identifier number (o ∷ g ∷ []) = (tt, (tt, tt))
adopting_none name identifier number (o ∷ g ∷ m ∷ rest) = (tt, tt)

reposting_none : (name : Bytes) (uuids : List Bytes) → Each GivesNoSet (reposting name uuids)
reposting_none name [] = tt
reposting_none name (uuid ∷ uuids) = (tt, (tt, reposting_none name uuids))

posts_none : (rows : Rows) (name : Bytes) (numbers : List ℕ) (moves : List Move) → AllZip (IsPostOf rows name) numbers moves → Each GivesNoSet moves
posts_none rows name [] [] says = tt
posts_none rows name [] (m ∷ ms) says = absurd says
posts_none rows name (n ∷ ns) [] says = absurd says
posts_none rows name (n ∷ ns) (m ∷ ms) says = (subst GivesNoSet (sym says.0.2) tt, posts_none rows name ns ms says.1)

deletion_none : (rows : Rows) (name uuid : Bytes) (moves : List Move) → SaysDeletion rows name uuid moves → Each GivesNoSet moves
deletion_none rows name uuid moves (number, local, has, inl (unknown, is)) = subst (Each GivesNoSet) (sym is) (tt, tt)
deletion_none rows name uuid moves (number, local, has, inr (known, is)) = subst (Each GivesNoSet) (sym is) (tt, tt)

commit_none : (rows : Rows) (s : Ideal) (name : Bytes) (what : What) (changes : List Change) (moves : List Move)
    → SaysCommit rows s name what changes moves → Each GivesNoSet moves
commit_none rows s name (begins set uuid token) changes moves says = subst (Each GivesNoSet) (sym says.2) (tt, tt)
commit_none rows s name (renews token) changes moves says = none_in moves says
commit_none rows s name (puts uuid kind text) changes moves says = subst (Each GivesNoSet) (sym says) (tt, tt)
commit_none rows s name (edits uuid text) changes moves says = subst (Each GivesNoSet) (sym says.3) (tt, tt)
commit_none rows s name (deletes uuid) changes moves says = deletion_none rows name uuid moves says
commit_none rows s name (posts numbers) changes moves says = posts_none rows name numbers moves says
commit_none rows s name (applies request given) changes moves says = answer_none rows (held_by (device_named s name)) name given changes moves says
commit_none rows s name (asks set) changes moves says = none_in moves says
commit_none rows s name (adopts set token) changes moves says =
    let x : SaysAdoption rows s name moves = says in
    subst (Each GivesNoSet) (sym x.moves_are)
    (each_both GivesNoSet (adopting name x.account.identifier (length x.account.sets) x.device.held) (reposting name x.uuids)
    (adopting_none name x.account.identifier (length x.account.sets) x.device.held) (reposting_none name x.uuids))
commit_none rows s name forgets changes moves says = none_in moves says

-- ---- a batch of a sync

item_none : (server device : Rows) (name uuid : Bytes) (r : ItemRow) (moves : List Move) → SaysItem server device name uuid r moves → Each GivesNoSet moves
item_none server device name uuid r moves (inl (sent, is)) = subst (Each GivesNoSet) (sym is) (tt, tt)
item_none server device name uuid r moves (inr (unsent, is)) = subst (Each GivesNoSet) (sym is) (tt, tt)

row_none : (server device : Rows) (name : Bytes) (at : Key) (v : Value) (moves : List Move) → SaysRow server device name at v moves → Each GivesNoSet moves
row_none server device name (key.Item uuid) (value.Item r) moves says = item_none server device name uuid r moves says
row_none server device name at v moves says = none_in moves says

change_none : (server device : Rows) (name : Bytes) (change : Change) (moves : List Move) → SaysChange server device name change moves → Each GivesNoSet moves
change_none server device name (Put r) moves says = row_none server device name r.key r.value moves says
change_none server device name (Remove at) moves says = none_in moves says

batch_none : (server device : Rows) (name : Bytes) (changes : List Change) (moves : List Move) → SaysChanges server device name changes moves
    → Each GivesNoSet moves
batch_none server device name [] moves says = none_in moves says
batch_none server device name (change ∷ changes) moves (first, later, says, rest, is) =
    subst (Each GivesNoSet) (sym is)
    (each_both GivesNoSet first later (change_none server device name change first says)
    (batch_none (rows_after server (change ∷ [])) device name changes later rest))

-- ---- sets of some passwords

module _ (known : Bytes → Type 0) where
  -- a set that the move gives an account is of one of them
  abbrev pub IsMoveOf : Move → Type 0
  IsMoveOf (Register identifier set) = IsOfPasswords known set
  IsMoveOf (Changed identifier number set) = IsOfPasswords known set
  IsMoveOf m = Unit {0}

  move_of : (m : Move) → GivesNoSet m → IsMoveOf m
  move_of (Register identifier set) none = absurd none
  move_of (Changed identifier number set) none = absurd none
  move_of m none = tt

  moves_of : (moves : List Move) → Each GivesNoSet moves → Each IsMoveOf moves
  moves_of moves each = each_weaker GivesNoSet IsMoveOf move_of moves each

  pub commit_of : (rows : Rows) (s : Ideal) (name : Bytes) (what : What) (changes : List Change) (moves : List Move)
      → SaysCommit rows s name what changes moves → Each IsMoveOf moves
  commit_of rows s name what changes moves says = moves_of moves (commit_none rows s name what changes moves says)

  pub nothing_of : (moves : List Move) → moves ≡ [] → Each IsMoveOf moves
  nothing_of moves is = subst (Each IsMoveOf) (sym is) tt

  registers_of : (identifier : Bytes) (begun : Option KeySet) (changes : List Change) → IsNoneOr (IsOfPasswords known) begun
      → Each IsMoveOf (registers_in identifier begun changes)
  registers_of identifier None changes of = tt
  registers_of identifier (Some set) [] of = tt
  registers_of identifier (Some set) (change ∷ changes) of = (of, tt)

  put_of : (set : KeySet) (at : Key) (v : Value) → IsOfPasswords known set → Each IsMoveOf (change_of set at v)
  put_of set (key.Account number) (value.Account r) of = (of, tt)
  put_of set at v of = tt

  changes_of : (begun : Option KeySet) (changes : List Change) → IsNoneOr (IsOfPasswords known) begun → Each IsMoveOf (changes_in begun changes)
  changes_of None changes of = tt
  changes_of (Some set) [] of = tt
  changes_of (Some set) (Put r ∷ changes) of = put_of set r.key r.value of
  changes_of (Some set) (Remove at ∷ changes) of = tt

  pub route_of : (server device : Rows) (name : Bytes) (begun : Option KeySet) (r : Request) (changes : List Change) (moves : List Move)
      → IsNoneOr (IsOfPasswords known) begun → SaysRoute server device name begun r changes moves → Each IsMoveOf moves
  route_of server device name begun (request.Register params pw) changes moves of says =
      subst (Each IsMoveOf) (sym says) (registers_of params.identifier begun changes of)
  route_of server device name begun (request.Params identifier) changes moves of says = nothing_of moves says
  route_of server device name begun (request.SignIn identifier pw) changes moves of says = nothing_of moves says
  route_of server device name begun (request.ChangePw token current pw cost nonce) changes moves of says =
      subst (Each IsMoveOf) (sym says) (changes_of begun changes of)
  route_of server device name begun (request.Sync token items limit sync_token cursor_token) changes moves of says =
      moves_of moves (batch_none server device name changes moves says)
