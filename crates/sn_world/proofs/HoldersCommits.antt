-- No commit of a device, and no request but a sync, seals a version again.
use Rattle.std.proofs.Common.{◌≡◌, ℕ, List, [], ◌∷◌, length, Option, Some, None, Bool, true, false, sym, subst, inl, inr}
use Rattle.std.specs.List.{AllZip}
use Rattle.sn_adopted.specs.Moves.{IsRetiring, adopting, reposting}
use Rattle.sn_device.specs.Steps.{What, adopts, applies, asks, begins, deletes, edits, forgets, posts, puts, renews}
use Rattle.sn_device.specs.Taking.{Progress, Renames, Told, is_conflict, is_retrieved, is_saved}
use Rattle.sn_conflict.specs.declared.meeting.Meeting.{Meeting}
use Rattle.sn_conflict.specs.declared.meeting.Meeting.TheVariants as meeting
use Rattle.sn_laws.specs.Each.{Each}
use Rattle.sn_laws.specs.Lookups.{Bytes, held_by, device_named}
use Rattle.sn_laws.specs.Moves.{after}
use Rattle.sn_laws.specs.declared.ideal.Ideal.{Ideal}
use Rattle.sn_laws.specs.declared.moves.Move.{Move}
use Rattle.sn_laws.specs.declared.moves.Move.TheVariants.{Rewrap}
use Rattle.sn_rows.specs.Table.{Rows}
use Rattle.sn_rows.specs.declared.body.RowBody.{RowBody}
use Rattle.sn_rows.specs.declared.body.RowBody.TheVariants as row
use Rattle.sn_rows.specs.declared.change.Change.{Change}
use Rattle.sn_rows.specs.declared.change.Change.TheVariants.{Put, Remove}
use Rattle.sn_rows.specs.declared.device_rows.LocalItem.{LocalItem}
use Rattle.sn_rows.specs.declared.key.Key.{Key}
use Rattle.sn_rows.specs.declared.key.Key.TheVariants as key
use Rattle.sn_rows.specs.declared.value.Value.{Value}
use Rattle.sn_rows.specs.declared.value.Value.TheVariants as value
use Rattle.sn_sets.specs.declared.sets.Sets.{Sets}
use Rattle.sn_string.specs.declared.params.KeySet.{KeySet}
use Rattle.sn_sync.specs.declared.answer.Answer.{Answer}
use Rattle.sn_sync.specs.declared.answer.Answer.TheVariants as answer
use Rattle.sn_sync.specs.declared.answer.Conflict.TheVariants as conflict
use Rattle.sn_sync.specs.declared.item.Item.{Item}
use Rattle.sn_world.proofs.HoldersMoves.{SealHeld, SealsHeld}
use Rattle.sn_world.proofs.Lists.{each_both}
use Rattle.sn_world.specs.Applying.{SaysAllTold, SaysAnswer, SaysApplied, SaysForeign, SaysMeets, SaysServer, SaysTold, renaming}
use Rattle.sn_world.specs.Committing.{IsPostOf, SaysAdoption, SaysCommit, SaysDeletion}
use Rattle.sn_world.specs.Serving.{change_of, changes_in, registers_in}

-- the move seals no version again
abbrev pub SealsNone : Move → Type 0
SealsNone (Rewrap uuid stamp under) = ⊥
SealsNone m = Unit {0}

seals_held : (s : Ideal) (m : Move) → SealsNone m → SealsHeld s m
seals_held s (Rewrap uuid stamp under) h = absurd h
seals_held s m h = tt

pub seal_none : (moves : List Move) (s : Ideal) → Each SealsNone moves → SealHeld s moves
seal_none [] s h = tt
seal_none (m ∷ ms) s h = (seals_held s m h.0, seal_none ms (after s m) h.1)

pub none_in : (moves : List Move) → moves ≡ [] → Each SealsNone moves
none_in moves is = subst (Each SealsNone) (sym is) tt

one_in : (moves : List Move) (m : Move) → moves ≡ m ∷ [] → SealsNone m → Each SealsNone moves
one_in moves m is h = subst (Each SealsNone) (sym is) (h, tt)

-- ---- requests

pub registers_none : (identifier : Bytes) (begins : Option KeySet) (changes : List Change) → Each SealsNone (registers_in identifier begins changes)
registers_none identifier None changes = tt
registers_none identifier (Some set) [] = tt
registers_none identifier (Some set) (change ∷ changes) = (tt, tt)

change_none : (set : KeySet) (at : Key) (v : Value) → Each SealsNone (change_of set at v)
change_none set (key.Account number) (value.Account row) = (tt, tt)
change_none set at v = tt

pub changes_none : (begins : Option KeySet) (changes : List Change) → Each SealsNone (changes_in begins changes)
changes_none None changes = tt
changes_none (Some set) [] = tt
changes_none (Some set) (Put row ∷ changes) = change_none set row.key row.value
changes_none (Some set) (Remove at ∷ changes) = tt

-- ---- an answer that is applied

meets_none : (name : Bytes) (sets : Sets) (p : Progress) (number : ℕ) (local : LocalItem) (i : Item) (how : Meeting) (q : Progress) (moves : List Move)
    → SaysMeets name sets p number local i how q moves → Each SealsNone moves
meets_none name sets p number local i meeting.Same q moves says = none_in moves says.1
meets_none name sets p number local i meeting.Take q moves says = none_in moves says.1
meets_none name sets p number local i (meeting.Own true) q moves says = subst (Each SealsNone) (sym says.1) (tt, tt)
meets_none name sets p number local i (meeting.Own false) q moves says = subst (Each SealsNone) (sym says.1.2) (tt, tt)
meets_none name sets p number local i meeting.GiveWay q moves says = subst (Each SealsNone) (sym says.1) (tt, tt)
meets_none name sets p number local i meeting.Fork q moves (r, copies, takes, is) = subst (Each SealsNone) (sym is) (tt, tt)

server_none : (name : Bytes) (sets : Sets) (p : Progress) (i : Item) (saved : Bool) (q : Progress) (moves : List Move)
    → SaysServer name sets p i saved q moves → Each SealsNone moves
server_none name sets p i saved q moves (inl (number, local, how, has, alike, says)) = meets_none name sets p number local i how q moves says
server_none name sets p i saved q moves (inr (free, makes, is)) = none_in moves is

renames_none : (name : Bytes) (sets : Sets) (p : Progress) (number : ℕ) (local : LocalItem) (latest : Option RowBody) (q : Progress)
    (how : Renames sets p number local latest q) → Each SealsNone (renaming name sets p number local latest q how)
renames_none name sets p number local None q how = tt
renames_none name sets p number local (Some row.Deleted) q how = (tt, tt)
renames_none name sets p number local (Some (row.Sealed strings)) q (inl closed) = tt
renames_none name sets p number local (Some (row.Sealed strings)) q (inr anew) = (tt, tt)

foreign_none : (name : Bytes) (sets : Sets) (p : Progress) (uuid : Bytes) (q : Progress) (moves : List Move) → SaysForeign name sets p uuid q moves
    → Each SealsNone moves
foreign_none name sets p uuid q moves (inl (number, local, has, how, is)) =
    subst (Each SealsNone) (sym is) (renames_none name sets p number local local.latest q how)
foreign_none name sets p uuid q moves (inr (free, same, is)) = none_in moves is

told_none : (name : Bytes) (sets : Sets) (saved : List Item) (p : Progress) (t : Told) (q : Progress) (moves : List Move)
    → SaysTold name sets saved p t q moves → Each SealsNone moves
told_none name sets saved p (is_saved i) q moves says = server_none name sets p i true q moves says
told_none name sets saved p (is_conflict (conflict.Sync server)) q moves says = server_none name sets p server false q moves says
told_none name sets saved p (is_conflict (conflict.Uuid unsaved)) q moves says = foreign_none name sets p unsaved.uuid q moves says
told_none name sets saved p (is_conflict (conflict.Content unsaved)) q moves says = absurd says
told_none name sets saved p (is_retrieved i) q moves (inl (among, same, is)) = none_in moves is
told_none name sets saved p (is_retrieved i) q moves (inr (other, says)) = server_none name sets p i false q moves says

all_told_none : (name : Bytes) (sets : Sets) (saved : List Item) (p : Progress) (ts : List Told) (q : Progress) (moves : List Move)
    → SaysAllTold name sets saved p ts q moves → Each SealsNone moves
all_told_none name sets saved p [] q moves says = none_in moves says.1
all_told_none name sets saved p (t ∷ ts) q moves (r, first, later, says, rest, is) =
    subst (Each SealsNone) (sym is)
    (each_both SealsNone first later (told_none name sets saved p t r first says) (all_told_none name sets saved r ts q later rest))

retiring_none : (told : Rows) (cursor : Option Bytes) (older : Option KeySet) (name : Bytes) (held : List ℕ) (moves : List Move)
    → IsRetiring told cursor older name held moves → Each SealsNone moves
retiring_none told cursor None name held moves is = none_in moves is
retiring_none told cursor (Some set) name held moves (inl (may, (old, present, are, is))) = subst (Each SealsNone) (sym is) (tt, tt)
retiring_none told cursor (Some set) name held moves (inr (may, is)) = none_in moves is

answer_none : (rows : Rows) (held : List ℕ) (name : Bytes) (given : Answer) (changes : List Change) (moves : List Move)
    → SaysAnswer rows held name given changes moves → Each SealsNone moves
answer_none rows held name (answer.Sync conflicts cursor retrieved saved token) changes moves says =
    let x : SaysApplied rows held name conflicts cursor retrieved saved token changes moves = says in
    subst (Each SealsNone) (sym x.moves_are)
    (each_both SealsNone x.first x.later (all_told_none name x.sets saved _ _ x.end x.first x.told)
    (retiring_none x.end.rows cursor x.sets.older name held x.later x.retiring))
answer_none rows held name (answer.Account token identifier uuid) changes moves says = absurd says
answer_none rows held name (answer.Params params) changes moves says = absurd says
answer_none rows held name (answer.Refused status tag more) changes moves says = absurd says

-- ---- any commit

adopting_none : (name identifier : Bytes) (number : ℕ) (held : List ℕ) → Each SealsNone (adopting name identifier number held)
adopting_none name identifier number [] = (tt, tt)
adopting_none name identifier number (g ∷ []) = (tt, tt)
adopting_none name identifier number (o ∷ g ∷ []) = (tt, (tt, tt))
adopting_none name identifier number (o ∷ g ∷ m ∷ rest) = (tt, tt)

reposting_none : (name : Bytes) (uuids : List Bytes) → Each SealsNone (reposting name uuids)
reposting_none name [] = tt
reposting_none name (uuid ∷ uuids) = (tt, (tt, reposting_none name uuids))

posts_none : (rows : Rows) (name : Bytes) (numbers : List ℕ) (moves : List Move) → AllZip (IsPostOf rows name) numbers moves → Each SealsNone moves
posts_none rows name [] [] says = tt
posts_none rows name [] (m ∷ ms) says = absurd says
posts_none rows name (n ∷ ns) [] says = absurd says
posts_none rows name (n ∷ ns) (m ∷ ms) says = (subst SealsNone (sym says.0.2) tt, posts_none rows name ns ms says.1)

deletion_none : (rows : Rows) (name uuid : Bytes) (moves : List Move) → SaysDeletion rows name uuid moves → Each SealsNone moves
deletion_none rows name uuid moves (number, local, has, inl (unknown, is)) = subst (Each SealsNone) (sym is) (tt, tt)
deletion_none rows name uuid moves (number, local, has, inr (known, is)) = subst (Each SealsNone) (sym is) (tt, tt)

pub commit_none : (rows : Rows) (s : Ideal) (name : Bytes) (what : What) (changes : List Change) (moves : List Move)
    → SaysCommit rows s name what changes moves → Each SealsNone moves
commit_none rows s name (begins set uuid token) changes moves says = subst (Each SealsNone) (sym says.2) (tt, tt)
commit_none rows s name (renews token) changes moves says = none_in moves says
commit_none rows s name (puts uuid kind text) changes moves says = subst (Each SealsNone) (sym says) (tt, tt)
commit_none rows s name (edits uuid text) changes moves says = subst (Each SealsNone) (sym says.3) (tt, tt)
commit_none rows s name (deletes uuid) changes moves says = deletion_none rows name uuid moves says
commit_none rows s name (posts numbers) changes moves says = posts_none rows name numbers moves says
commit_none rows s name (applies request given) changes moves says = answer_none rows (held_by (device_named s name)) name given changes moves says
commit_none rows s name (asks set) changes moves says = none_in moves says
commit_none rows s name (adopts set token) changes moves says =
    let x : SaysAdoption rows s name moves = says in
    subst (Each SealsNone) (sym x.moves_are)
    (each_both SealsNone (adopting name x.account.identifier (length x.account.sets) x.device.held) (reposting name x.uuids)
    (adopting_none name x.account.identifier (length x.account.sets) x.device.held) (reposting_none name x.uuids))
commit_none rows s name forgets changes moves says = none_in moves says
