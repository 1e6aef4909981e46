-- A whole call of a device: the first cause in order why it is refused, or else its commits and exchanges one after another, up to its answer, a
-- reply that ends it, or a disk that fails.
use Rattle.std.specs.Prelude.{◌≡◌, ◌≢◌, ◌⊎◌, ◌+◌, ◌<◌, ◌≤◌, ℕ, suc, List, [], ◌∷◌, ◌++◌, length, true, false, Option, Some, None, codes}
use Rattle.std.specs.List.{flat_map}
use Rattle.rand_chacha.specs.ChaCha.{ChaCha}
use Rattle.sn_conflict.specs.Checks.{FailsAt, Passes}
use Rattle.sn_conflict.specs.declared.error.CheckError.{CheckError}
use Rattle.sn_conflict.specs.declared.error.CheckError.TheVariants as wrong
use Rattle.sn_items.specs.Objects.{is_object}
use Rattle.sn_journal.specs.Image.{IsBounded}
use Rattle.sn_keys.specs.Keys.{AreKeysOf}
use Rattle.sn_net.specs.Exchanges.{Exchange}
use Rattle.sn_string.specs.Bounds.{longest_content}
use Rattle.sn_rekey.specs.declared.error.RekeyError.TheVariants as rekey
use Rattle.sn_rekey.specs.declared.error.Running.{Running}
use Rattle.sn_rows.specs.Spelling.{spelled}
use Rattle.sn_rows.specs.Table.{Rows, rows_after}
use Rattle.sn_rows.specs.declared.change.Change.{Change}
use Rattle.sn_rows.specs.declared.device_rows.LocalItem.{LocalItem}
use Rattle.sn_rows.specs.declared.device_rows.OwnerRow.{OwnerRow}
use Rattle.sn_sets.specs.declared.sets.Sets.{Sets}
use Rattle.sn_string.specs.declared.params.KeySet.{KeySet}
use Rattle.sn_string.specs.declared.params.Params.{Params}
use Rattle.sn_sync.specs.declared.answer.Answer.{Answer}
use Rattle.sn_sync.specs.declared.answer.Answer.TheVariants as answer
use Rattle.sn_sync.specs.declared.item.Item.{Item}
use Rattle.sn_sync.specs.declared.request.Request.{Request}
use Rattle.sn_sync.specs.declared.request.Request.TheVariants as request
use Rattle.sn_device.specs.Asking.{Fails, IsExchange, Reply, lost, said, unheard, unread}
use Rattle.sn_device.specs.Draws.{DrawsNoFresh, DrawsNonce}
use Rattle.sn_device.specs.Changing.{IsFirstSent, IsRunning, MayAsk, NoneRuns}
use Rattle.sn_device.specs.Listing.{AreListed, IsClosed, IsDeleted, Shows}
use Rattle.sn_device.specs.Sending.{AreChosen, AreUnsent, IsSyncOf, NoneWaits, Numbered, PostsAll, SomeWaits}
use Rattle.sn_device.specs.States.{Bytes, HasItem, HasNoAccount, HasOwner, HasSets, IsFree, IsUsed}
use Rattle.sn_device.specs.Steps.{Step, What, adopts, applies, asks, begins, deletes, edits, forgets, posts, puts, renews, start}
use Rattle.sn_device.specs.Taking.{RunsOut, last_number, told_by}
use Rattle.sn_device.specs.declared.error.ClientError.{ClientError}
use Rattle.sn_device.specs.declared.error.ClientError.TheVariants as refusal
use Rattle.sn_device.specs.declared.error.Place.{Place}
use Rattle.sn_device.specs.declared.error.Place.TheVariants as place
use Rattle.sn_device.specs.declared.listed.Listed.{Listed}

-- a call
pub data Call : Type 0 where
  -- identifier, password and cost
  register : Bytes → Bytes → ℕ → Call
  -- identifier and password
  sign_in : Bytes → Bytes → Call
  -- type and content
  put : Bytes → Bytes → Call
  -- uuid and content
  edit : Bytes → Bytes → Call
  delete : Bytes → Call
  list : Call
  content : Bytes → Call
  sync : Call
  -- a new password, and the cost of its keys
  passwd : Bytes → ℕ → Call

-- what a call that is answered gives
pub data Given : Type 0 where
  nothing : Given
  a_uuid : Bytes → Given
  a_text : Bytes → Given
  lines : List Listed → Given

-- what a call does, piece by piece
pub data Act : Type 0 where
  commits : What → List Change → Act
  asked : Request → Reply → Act

-- how it ends
pub data Halt : Type 0 where
  -- with what it gives, and the words that are left
  answered : Given → ChaCha → Halt
  refused : ClientError → Halt
  -- the disk failed in this commit, of which it has all or nothing
  broken : What → List Change → Halt

-- nothing more is done, and the call is refused
abbrev pub Refuses : List Act → Halt → ClientError → Type 0
Refuses acts halt why = (acts ≡ []) × (halt ≡ refused why)

-- memory is wanting: so any call may be refused before its first act, and behind each of its acts
abbrev pub Wants : List Act → Halt → Type 0
Wants acts halt = Refuses acts halt refusal.Memory

-- the changes of a commit are a batch of the journal
abbrev pub IsBatch : List Change → Type 0
IsBatch changes = IsBounded (spelled changes)

-- how a commit that isn't made ends a call: the disk fails in it; the changes are more than a batch; memory is wanting
abbrev pub StopsAt : What → List Change → Halt → Type 0
StopsAt what changes halt = (IsBatch changes × (halt ≡ broken what changes))
    ⊎ ((¬ (IsBatch changes) × (halt ≡ refused (refusal.TooLarge (length (spelled changes))))) ⊎ (halt ≡ refused refusal.Memory))

-- the commit is made, and the call is answered; or it isn't made
abbrev pub EndsCommit : What → List Change → Given → ChaCha → List Act → Halt → Type 0
EndsCommit what changes given left acts halt =
    (IsBatch changes × (acts ≡ commits what changes ∷ []) × (halt ≡ answered given left)) ⊎ ((acts ≡ []) × StopsAt what changes halt)

-- one commit more
abbrev pub CommitsOnce : Rows → ChaCha → What → Given → List Act → Halt → Type 0
CommitsOnce rows words what given acts halt =
    (changes : List Change) × (left : ChaCha) × Step rows words what changes left × EndsCommit what changes given left acts halt

-- a request is made; its reply ends the call, or memory is wanting then, or it goes on with an answer
abbrev pub AsksFirst : Request → (Answer → List Act → Halt → Type 0) → List Act → Halt → Type 0
AsksFirst r P acts halt = (reply : Reply) × (later : List Act) × (acts ≡ asked r reply ∷ later)
    × (((why : ClientError) × Fails reply why × Refuses later halt why) ⊎ (Wants later halt
    ⊎ ((given : Answer) × (reply ≡ said given) × P given later halt)))

-- ---- registration and sign-in

abbrev pub most_cost : ℕ
most_cost = 10000000

-- a cost that isn't taken
abbrev pub IsBadCost : ℕ → ℕ → Type 0
IsBadCost least cost = (cost ≡ 0) ⊎ ((cost < least) ⊎ (most_cost < cost))

-- the set of a registration: the keys of the password under the identifier, the cost and a drawn nonce
pub record IsNewSet (words : ChaCha) (identifier password : Bytes) (cost : ℕ) (set : KeySet) (left : ChaCha) : Type 0 where
  pub identifier_is : set.params.identifier ≡ identifier
  pub cost_is : set.params.pw_cost ≡ cost
  pub nonce_is : DrawsNonce words set.params.pw_nonce left
  pub keys : AreKeysOf password set.params set

-- an account is answered; its token is kept
abbrev pub KeepsAccount : Rows → ChaCha → (Bytes → Bytes → What) → Answer → List Act → Halt → Type 0
KeepsAccount rows words what given acts halt = (token : Bytes) × (identifier : Bytes) × (uuid : Bytes)
    × (given ≡ answer.Account token identifier uuid) × CommitsOnce rows words (what uuid token) nothing acts halt

abbrev pub AsksAccount : Rows → ChaCha → Request → (Bytes → Bytes → What) → List Act → Halt → Type 0
AsksAccount rows words r what acts halt = AsksFirst r (KeepsAccount rows words what) acts halt

-- has an account; a cost that isn't taken; else a set is drawn and registered
abbrev pub RunsRegister : ℕ → Bytes → Bytes → ℕ → Rows → ChaCha → List Act → Halt → Type 0
RunsRegister least identifier password cost rows words acts halt =
    ((owner : OwnerRow) × HasOwner rows owner × Refuses acts halt (refusal.HasAccount owner.identifier))
    ⊎ (HasNoAccount rows × ((IsBadCost least cost × Refuses acts halt (refusal.Cost cost))
    ⊎ (¬ (IsBadCost least cost) × ((set : KeySet) × (left : ChaCha) × IsNewSet words identifier password cost set left
    × AsksAccount rows left (request.Register set.params set.pw) (begins set) acts halt))))

-- the older set's parameters, with other keys
abbrev pub IsOtherOlder : Sets → KeySet → Type 0
IsOtherOlder sets set = (older : KeySet) × (sets.older ≡ Some older) × (set.params ≡ older.params) × (set ≢ older)

-- the keys of the password on a device that holds these sets: of a held set's parameters they are its keys, or the password is another; the present
-- set gets a new session token; a set that is not held, by another's change of password, is adopted
abbrev pub SignsInAgain : Rows → ChaCha → Bytes → Sets → KeySet → List Act → Halt → Type 0
SignsInAgain rows words identifier sets set acts halt =
    ((set.params ≡ sets.present.params) × (set ≢ sets.present) × Refuses acts halt refusal.WrongPassword)
    ⊎ ((set ≡ sets.present) × AsksAccount rows words (request.SignIn identifier set.pw) (λ uuid token. renews token) acts halt)
    ⊎ ((set.params ≢ sets.present.params) × ((IsOtherOlder sets set × Refuses acts halt refusal.WrongPassword)
    ⊎ (¬ (IsOtherOlder sets set) × AsksAccount rows words (request.SignIn identifier set.pw) (λ uuid token. adopts set token) acts halt)))

-- on any device
abbrev pub SignsInWith : Rows → ChaCha → Bytes → KeySet → List Act → Halt → Type 0
SignsInWith rows words identifier set acts halt =
    (HasNoAccount rows × AsksAccount rows words (request.SignIn identifier set.pw) (begins set) acts halt)
    ⊎ ((owner : OwnerRow) × (sets : Sets) × HasSets rows owner sets × SignsInAgain rows words identifier sets set acts halt)

-- the parameters that were answered: another's; of a cost that isn't taken; else the keys are derived
abbrev pub SignsInUnder : ℕ → Rows → ChaCha → Bytes → Bytes → Params → List Act → Halt → Type 0
SignsInUnder least rows words identifier password params acts halt =
    ((params.identifier ≢ identifier) × Refuses acts halt (refusal.BadAnswer (place.Member (codes "identifier"))))
    ⊎ ((params.identifier ≡ identifier) × ((IsBadCost least params.pw_cost × Refuses acts halt (refusal.Cost params.pw_cost))
    ⊎ (¬ (IsBadCost least params.pw_cost) × ((set : KeySet) × AreKeysOf password params set × SignsInWith rows words identifier set acts halt))))

abbrev pub SignsInBy : ℕ → Rows → ChaCha → Bytes → Bytes → Answer → List Act → Halt → Type 0
SignsInBy least rows words identifier password given acts halt =
    (params : Params) × (given ≡ answer.Params params) × SignsInUnder least rows words identifier password params acts halt

abbrev pub AsksParams : ℕ → Rows → ChaCha → Bytes → Bytes → List Act → Halt → Type 0
AsksParams least rows words identifier password acts halt =
    AsksFirst (request.Params identifier) (SignsInBy least rows words identifier password) acts halt

-- no account, or this one
abbrev pub IsOrMayBe : Rows → Bytes → Type 0
IsOrMayBe rows identifier = (owner : OwnerRow) → HasOwner rows owner → owner.identifier ≡ identifier

-- another account; else the parameters are asked for
abbrev pub RunsSignIn : ℕ → Bytes → Bytes → Rows → ChaCha → List Act → Halt → Type 0
RunsSignIn least identifier password rows words acts halt =
    ((owner : OwnerRow) × HasOwner rows owner × (owner.identifier ≢ identifier) × Refuses acts halt (refusal.OtherAccount owner.identifier))
    ⊎ (IsOrMayBe rows identifier × AsksParams least rows words identifier password acts halt)

-- ---- calls that need an account

-- none is there; else as said, with the account's row and sets
abbrev pub WithAccount : Rows → (OwnerRow → Sets → List Act → Halt → Type 0) → List Act → Halt → Type 0
WithAccount rows P acts halt = (HasNoAccount rows × Refuses acts halt refusal.NoAccount)
    ⊎ ((owner : OwnerRow) × (sets : Sets) × HasSets rows owner sets × P owner sets acts halt)

-- the content is too long, or no object; else as said
abbrev pub WithContent : Bytes → (List Act → Halt → Type 0) → List Act → Halt → Type 0
WithContent text P acts halt = ((longest_content < length text) × Refuses acts halt (refusal.TooLong (length text)))
    ⊎ ((length text ≤ longest_content) × (((is_object text ≡ false) × Refuses acts halt refusal.NotObject)
    ⊎ ((is_object text ≡ true) × P acts halt)))

-- the local numbers are used up; no fresh uuid is drawn; else the item is put
abbrev pub PutsItem : Rows → ChaCha → OwnerRow → Bytes → Bytes → List Act → Halt → Type 0
PutsItem rows words owner kind text acts halt =
    ((owner.next ≡ last_number) × Refuses acts halt (refusal.NumbersUsed owner.next))
    ⊎ ((owner.next ≢ last_number) × (((drawn : Bytes) × DrawsNoFresh rows words drawn × Refuses acts halt (refusal.NoFreshUuid drawn))
    ⊎ ((uuid : Bytes) × CommitsOnce rows words (puts uuid kind text) (a_uuid uuid) acts halt)))

abbrev pub RunsPut : Bytes → Bytes → Rows → ChaCha → List Act → Halt → Type 0
RunsPut kind text rows words acts halt =
    WithAccount rows (λ owner sets. WithContent text (PutsItem rows words owner kind text)) acts halt

-- no item has the uuid, or its draft is a deletion
abbrev pub IsGone : Rows → Bytes → Type 0
IsGone rows uuid = IsFree rows uuid ⊎ ((number : ℕ) × (local : LocalItem) × HasItem rows uuid number local × IsDeleted local)

-- the item is gone; or closed; else as said of its content
abbrev pub WithItem : Rows → Sets → Bytes → (Bytes → List Act → Halt → Type 0) → List Act → Halt → Type 0
WithItem rows sets uuid P acts halt = (IsGone rows uuid × Refuses acts halt (refusal.NoItem uuid))
    ⊎ ((number : ℕ) × (local : LocalItem) × HasItem rows uuid number local × ¬ (IsDeleted local)
    × (((nonce : Bytes) × IsClosed sets local nonce × Refuses acts halt (refusal.Closed nonce))
    ⊎ ((shown : Bytes) × Shows sets local shown × P shown acts halt)))

abbrev pub RunsEdit : Bytes → Bytes → Rows → ChaCha → List Act → Halt → Type 0
RunsEdit uuid text rows words acts halt =
    WithAccount rows (λ owner sets. WithItem rows sets uuid (λ shown. WithContent text (CommitsOnce rows words (edits uuid text) nothing))) acts halt

-- an item that is deleted already, or closed, may be deleted too
abbrev pub DeletesItem : Bytes → Rows → ChaCha → OwnerRow → Sets → List Act → Halt → Type 0
DeletesItem uuid rows words owner sets acts halt = (IsFree rows uuid × Refuses acts halt (refusal.NoItem uuid))
    ⊎ (IsUsed rows uuid × CommitsOnce rows words (deletes uuid) nothing acts halt)

abbrev pub RunsDelete : Bytes → Rows → ChaCha → List Act → Halt → Type 0
RunsDelete uuid rows words acts halt = WithAccount rows (DeletesItem uuid rows words) acts halt

abbrev pub ListsItems : Rows → ChaCha → OwnerRow → Sets → List Act → Halt → Type 0
ListsItems rows words owner sets acts halt = (listed : List Listed) × AreListed rows sets listed × (acts ≡ []) × (halt ≡ answered (lines listed) words)

abbrev pub RunsList : Rows → ChaCha → List Act → Halt → Type 0
RunsList rows words acts halt = WithAccount rows (ListsItems rows words) acts halt

abbrev pub GivesText : ChaCha → Bytes → List Act → Halt → Type 0
GivesText words shown acts halt = (acts ≡ []) × (halt ≡ answered (a_text shown) words)

abbrev pub RunsContent : Bytes → Rows → ChaCha → List Act → Halt → Type 0
RunsContent uuid rows words acts halt = WithAccount rows (λ owner sets. WithItem rows sets uuid (GivesText words)) acts halt

-- ---- sync

abbrev pub most_exchanges : ℕ
most_exchanges = 10000

-- where a sync stands: the rows, the words, and the last answer that was applied
pub record Standing : Type 0 where
  pub rows : Rows
  pub words : ChaCha
  pub last : Option Answer

-- something is left: a page behind the last one, or an item that waits to be sent
abbrev pub IsLeft : Rows → Answer → Type 0
IsLeft rows (answer.Sync conflicts cursor retrieved saved token) = (cursor ≢ None) ⊎ SomeWaits rows
IsLeft rows (answer.Account token identifier uuid) = ⊥
IsLeft rows (answer.Params params) = ⊥
IsLeft rows (answer.Refused status tag more) = ⊥

abbrev pub IsAllDone : Rows → Answer → Type 0
IsAllDone rows (answer.Sync conflicts cursor retrieved saved token) = (cursor ≡ None) × NoneWaits rows
IsAllDone rows (answer.Account token identifier uuid) = ⊥
IsAllDone rows (answer.Params params) = ⊥
IsAllDone rows (answer.Refused status tag more) = ⊥

-- a page is left behind the answer
abbrev pub HasCursor : Answer → Type 0
HasCursor (answer.Sync conflicts cursor retrieved saved token) = cursor ≢ None
HasCursor (answer.Account token identifier uuid) = ⊥
HasCursor (answer.Params params) = ⊥
HasCursor (answer.Refused status tag more) = ⊥

-- an exchange is due: the first, and another while something is left
abbrev pub IsDue : Rows → Option Answer → Type 0
IsDue rows None = Unit {0}
IsDue rows (Some given) = IsLeft rows given

abbrev pub IsDone : Rows → Option Answer → Type 0
IsDone rows None = ⊥
IsDone rows (Some given) = IsAllDone rows given

-- what is sent: the drafts among it that weren't sent before are posted, in one commit where there are any, and then the request goes out
pub record Sends (rows : Rows) (numbers : List ℕ) (posted : List Change) (r : Request) (ready : Rows) : Type 0 where
  pub owner : OwnerRow
  pub owned : HasOwner rows owner
  pub chosen : List Numbered
  pub later : List Numbered
  pub chosen_are : AreChosen rows chosen later
  pub unsent : AreUnsent chosen numbers
  pub posts_them : PostsAll rows numbers posted
  pub request_is : IsSyncOf owner chosen r
  pub ready_is : ready ≡ rows_after rows posted

abbrev pub posting : List ℕ → List Change → List Act
posting [] posted = []
posting (number ∷ numbers) posted = commits (posts (number ∷ numbers)) posted ∷ []

-- an exchange whose answer is applied
pub record Round : Type 0 where
  pub numbers : List ℕ
  pub posted : List Change
  pub request : Request
  pub given : Answer
  pub applied : List Change

abbrev pub acts_of : Round → List Act
acts_of round = posting round.numbers round.posted ++ asked round.request (said round.given) ∷ commits (applies round.request round.given) round.applied ∷ []

pub record IsRound (at : Standing) (round : Round) (after : Standing) : Type 0 where
  pub due : IsDue at.rows at.last
  pub ready : Rows
  pub sends : Sends at.rows round.numbers round.posted round.request ready
  pub left : ChaCha
  pub step : Step ready at.words (applies round.request round.given) round.applied left
  pub batches : IsBatch round.posted × IsBatch round.applied
  pub after_is : after ≡ record { rows = rows_after ready round.applied; words = left; last = Some round.given }

-- one after another
abbrev pub AreRounds : Standing → List Round → Standing → Type 0
AreRounds at [] after = after ≡ at
AreRounds at (round ∷ rounds) after = (between : Standing) × IsRound at round between × AreRounds between rounds after

-- the place of a check that fails
abbrev pub IsCheckPlace : CheckError → Place → Type 0
IsCheckPlace (wrong.Saved n) at = at ≡ place.Saved n
IsCheckPlace (wrong.Conflict n) at = at ≡ place.Conflict n
IsCheckPlace (wrong.Retrieved n) at = at ≡ place.Retrieved n
IsCheckPlace wrong.Cursor at = at ≡ place.Cursor
IsCheckPlace wrong.Memory at = ⊥

-- the most bytes of a sync or cursor token in a device's row
abbrev pub longest_token : ℕ
longest_token = 33554432

-- the first of an answer's tokens that is longer has this name
abbrev pub HasLongToken : Option Bytes → Bytes → Bytes → Type 0
HasLongToken None token name = (longest_token < length token) × (name ≡ codes "sync_token")
HasLongToken (Some cursor) token name = ((longest_token < length cursor) × (name ≡ codes "cursor_token"))
    ⊎ ((length cursor ≤ longest_token) × (longest_token < length token) × (name ≡ codes "sync_token"))

-- the answer to these items has too long a token, or fails a check, or what it tells can't be applied
abbrev pub IsUnapplied : Rows → ChaCha → List Item → Answer → ClientError → Type 0
IsUnapplied rows words sent (answer.Sync conflicts cursor retrieved saved token) why =
    ((name : Bytes) × HasLongToken cursor token name × (why ≡ refusal.BadAnswer (place.Member name)))
    ⊎ ((e : CheckError) × (at : Place) × FailsAt sent saved conflicts retrieved cursor e × IsCheckPlace e at × (why ≡ refusal.BadAnswer at))
    ⊎ ((owner : OwnerRow) × (sets : Sets) × Passes sent saved conflicts retrieved cursor × HasSets rows owner sets
    × RunsOut sets saved (start rows owner words) (told_by saved conflicts retrieved) why)
IsUnapplied rows words sent (answer.Account token identifier uuid) why = ⊥
IsUnapplied rows words sent (answer.Params params) why = ⊥
IsUnapplied rows words sent (answer.Refused status tag more) why = ⊥

abbrev pub items_of : Request → List Item
items_of (request.Sync token items limit sync_token cursor_token) = items
items_of (request.Register params pw) = []
items_of (request.Params identifier) = []
items_of (request.SignIn identifier pw) = []
items_of (request.ChangePw token current pw cost nonce) = []

-- an exchange ends the call behind its request: by its reply, in want of memory, or since what its answer changes isn't committed
abbrev pub EndsBehind : Rows → ChaCha → Request → Reply → Halt → Type 0
EndsBehind rows words r reply halt = ((why : ClientError) × Fails reply why × (halt ≡ refused why)) ⊎ ((halt ≡ refused refusal.Memory)
    ⊎ ((given : Answer) × (reply ≡ said given) × (((why : ClientError) × IsUnapplied rows words (items_of r) given why × (halt ≡ refused why))
    ⊎ ((changes : List Change) × (left : ChaCha) × Step rows words (applies r given) changes left × StopsAt (applies r given) changes halt))))

-- before it, since what is posted isn't committed or memory is wanting then, or behind it
abbrev pub EndsExchange : ChaCha → List ℕ → List Change → Request → Rows → List Act → Halt → Type 0
EndsExchange words numbers posted r ready acts halt =
    ((numbers ≢ []) × (acts ≡ []) × StopsAt (posts numbers) posted halt)
    ⊎ (IsBatch posted × (((acts ≡ posting numbers posted) × (halt ≡ refused refusal.Memory))
    ⊎ ((reply : Reply) × (acts ≡ posting numbers posted ++ asked r reply ∷ []) × EndsBehind ready words r reply halt)))

-- an exchange that ends the call
pub record EndsUnapplied (at : Standing) (acts : List Act) (halt : Halt) : Type 0 where
  pub due : IsDue at.rows at.last
  pub numbers : List ℕ
  pub posted : List Change
  pub request : Request
  pub ready : Rows
  pub sends : Sends at.rows numbers posted request ready
  pub ends_so : EndsExchange at.words numbers posted request ready acts halt

-- ---- a call piece by piece: where it stands, and how a piece of it turns out

-- the exchanges that it made so far, the rows, and the words
pub record Point : Type 0 where
  pub made : ℕ
  pub rows : Rows
  pub words : ChaCha

pub data Turn : Type 0 where
  -- the call goes on from there
  goes_on : Point → Turn
  -- it ends
  is_over : Halt → Turn

-- nothing more is done, and the call is refused
abbrev pub EndsBy : ClientError → Point → List Act → Turn → Type 0
EndsBy why p acts turn = (acts ≡ []) × (turn ≡ is_over (refused why))

-- one piece, and where the call goes on behind it, another
abbrev pub Then : (Point → List Act → Turn → Type 0) → (Point → List Act → Turn → Type 0) → Point → List Act → Turn → Type 0
Then first next p acts turn =
    ((halt : Halt) × first p acts (is_over halt) × (turn ≡ is_over halt))
    ⊎ ((front : List Act) × (q : Point) × (later : List Act) × first p front (goes_on q) × next q later turn × (acts ≡ front ++ later))

-- the call is answered with nothing behind the piece
abbrev pub AnswersNothing : (Point → List Act → Turn → Type 0) → Point → List Act → Halt → Type 0
AnswersNothing piece p acts halt = piece p acts (is_over halt) ⊎ ((q : Point) × piece p acts (goes_on q) × (halt ≡ answered nothing q.words))

-- one commit; memory may be wanting before it
abbrev pub CommitsStep : What → Point → List Act → Turn → Type 0
CommitsStep what p acts turn = EndsBy refusal.Memory p acts turn
    ⊎ ((changes : List Change) × (left : ChaCha) × Step p.rows p.words what changes left
    × ((IsBatch changes × (acts ≡ commits what changes ∷ [])
    × (turn ≡ goes_on (record { made = p.made; rows = rows_after p.rows changes; words = left })))
    ⊎ ((halt : Halt) × (acts ≡ []) × StopsAt what changes halt × (turn ≡ is_over halt))))

-- the reply is no answer, and ends the call; or memory is wanting behind it; or the call goes on with the answer, a refusal too
abbrev pub Hears : (Answer → Point → List Act → Turn → Type 0) → Reply → Point → List Act → Turn → Type 0
Hears next lost p acts turn = EndsBy refusal.LinkFault p acts turn ⊎ EndsBy refusal.Memory p acts turn
Hears next unheard p acts turn = EndsBy refusal.Memory p acts turn
Hears next (unread at) p acts turn = EndsBy (refusal.BadAnswer at) p acts turn ⊎ EndsBy refusal.Memory p acts turn
Hears next (said given) p acts turn = EndsBy refusal.Memory p acts turn ⊎ next given p acts turn

-- one request; memory may be wanting before it; where as many exchanges were made as a call may make, no more is
abbrev pub AsksHost : Request → (Answer → Point → List Act → Turn → Type 0) → Point → List Act → Turn → Type 0
AsksHost r next p acts turn = EndsBy refusal.Memory p acts turn
    ⊎ (((p.made ≡ most_exchanges) × EndsBy refusal.RoundsUsed p acts turn)
    ⊎ ((p.made < most_exchanges) × ((reply : Reply) × (later : List Act) × (acts ≡ asked r reply ∷ later)
    × Hears next reply (record { made = suc p.made; rows = p.rows; words = p.words }) later turn)))

-- ---- exchanges until nothing is left

-- after so many exchanges: all is done; or as many were made as may be, and one more is due; or the next one ends the call; or memory is wanting
abbrev pub EndsSync : ℕ → Standing → List Act → Turn → Type 0
EndsSync count at acts turn =
    (IsDone at.rows at.last × (acts ≡ []) × (turn ≡ goes_on (record { made = count; rows = at.rows; words = at.words })))
    ⊎ ((halt : Halt) × (turn ≡ is_over halt) × (((count ≡ most_exchanges) × IsDue at.rows at.last × Refuses acts halt refusal.RoundsUsed)
    ⊎ (((count < most_exchanges) × EndsUnapplied at acts halt) ⊎ Wants acts halt)))

-- behind the exchanges that the call made before
pub record Exchanges (p : Point) (acts : List Act) (turn : Turn) : Type 0 where
  pub rounds : List Round
  pub few : p.made + length rounds ≤ most_exchanges
  pub at : Standing
  pub went : AreRounds (record { rows = p.rows; words = p.words; last = None }) rounds at
  pub later : List Act
  pub ends : EndsSync (p.made + length rounds) at later turn
  pub acts_are : acts ≡ flat_map acts_of rounds ++ later

-- ---- a set that is asked for

-- the change of the account's password from the present set to this one
abbrev pub change_to : OwnerRow → KeySet → KeySet → Request
change_to owner present set = request.ChangePw owner.token present.pw set.pw set.params.pw_cost set.params.pw_nonce

-- the set that was asked for is dropped, and the call is refused
abbrev pub Drops : ClientError → Point → List Act → Turn → Type 0
Drops why = Then (CommitsStep forgets) (EndsBy why)

-- after a 401 the set is dropped; after another refusal it stays asked for
abbrev pub DropsOrKeeps : ℕ → Bytes → Point → List Act → Turn → Type 0
DropsOrKeeps status tag p acts turn = ((status ≡ 401) × Drops (refusal.Refused status tag) p acts turn)
    ⊎ ((status ≢ 401) × EndsBy (refusal.Refused status tag) p acts turn)

-- the answer to a change that is sent again: the set is adopted, or dropped
abbrev pub AdoptsOrDrops : KeySet → Answer → Point → List Act → Turn → Type 0
AdoptsOrDrops set (answer.Account token identifier uuid) p acts turn = CommitsStep (adopts set token) p acts turn
AdoptsOrDrops set (answer.Refused status tag more) p acts turn = Drops (refusal.Refused status tag) p acts turn
AdoptsOrDrops set (answer.Params params) p acts turn = ⊥
AdoptsOrDrops set (answer.Sync conflicts cursor retrieved saved token) p acts turn = ⊥

-- the answer to a sign-in with the set that was asked for
abbrev pub AdoptsOrKeeps : KeySet → Answer → Point → List Act → Turn → Type 0
AdoptsOrKeeps set (answer.Account token identifier uuid) p acts turn = CommitsStep (adopts set token) p acts turn
AdoptsOrKeeps set (answer.Refused status tag more) p acts turn = DropsOrKeeps status tag p acts turn
AdoptsOrKeeps set (answer.Params params) p acts turn = ⊥
AdoptsOrKeeps set (answer.Sync conflicts cursor retrieved saved token) p acts turn = ⊥

-- the account's parameters tell what became of the change: those of the present set, it wasn't made, and is sent again; those of the set that was
-- asked for, it was made, and the device signs in; else another change was made, and this one can't be any more
abbrev pub FindsParams : OwnerRow → KeySet → KeySet → Params → Point → List Act → Turn → Type 0
FindsParams owner present set params p acts turn =
    ((params ≡ present.params) × AsksHost (change_to owner present set) (AdoptsOrDrops set) p acts turn)
    ⊎ ((params ≢ present.params) × (((params ≡ set.params) × AsksHost (request.SignIn owner.identifier set.pw) (AdoptsOrKeeps set) p acts turn)
    ⊎ ((params ≢ set.params) × Drops (refusal.Refused 401 (codes "bad-auth")) p acts turn)))

abbrev pub Finds : OwnerRow → KeySet → KeySet → Answer → Point → List Act → Turn → Type 0
Finds owner present set (answer.Params params) p acts turn = FindsParams owner present set params p acts turn
Finds owner present set (answer.Refused status tag more) p acts turn = DropsOrKeeps status tag p acts turn
Finds owner present set (answer.Account token identifier uuid) p acts turn = ⊥
Finds owner present set (answer.Sync conflicts cursor retrieved saved token) p acts turn = ⊥

-- what became of the change to this set is found out, and the set is adopted where it was or is made
abbrev pub Resolves : OwnerRow → KeySet → KeySet → Point → List Act → Turn → Type 0
Resolves owner present set = AsksHost (request.Params owner.identifier) (Finds owner present set)

-- ---- sync

-- a set that is asked for is resolved first; then exchanges until nothing is left
abbrev pub SyncsUnder : OwnerRow → Sets → Point → List Act → Turn → Type 0
SyncsUnder owner sets p acts turn =
    ((sets.asked ≡ None) × Exchanges p acts turn)
    ⊎ ((set : KeySet) × (sets.asked ≡ Some set) × Then (Resolves owner sets.present set) Exchanges p acts turn)

-- before the first exchange of a call
abbrev pub begun : Rows → ChaCha → Point
begun rows words = record { made = 0; rows = rows; words = words }

abbrev pub SyncsItems : Rows → ChaCha → OwnerRow → Sets → List Act → Halt → Type 0
SyncsItems rows words owner sets acts halt = AnswersNothing (SyncsUnder owner sets) (begun rows words) acts halt

abbrev pub RunsSync : Rows → ChaCha → List Act → Halt → Type 0
RunsSync rows words acts halt = WithAccount rows (SyncsItems rows words) acts halt

-- ---- a change of password

-- why no change may begin: one runs still, or an item is sent and isn't answered
abbrev pub RefusesChange : Rows → Sets → ClientError → Type 0
RefusesChange rows sets why =
    ((by : Running) × IsRunning rows sets by × (why ≡ refusal.Rekey (rekey.ChangeRunning by)))
    ⊎ ((uuid : Bytes) × NoneRuns rows sets × IsFirstSent rows uuid × (why ≡ refusal.Rekey (rekey.Unsent uuid)))

-- the answer to the change: the set is adopted; after a 401 what became of it is found out; else it is dropped
abbrev pub AnswersChange : OwnerRow → KeySet → KeySet → Answer → Point → List Act → Turn → Type 0
AnswersChange owner present set (answer.Account token identifier uuid) p acts turn = CommitsStep (adopts set token) p acts turn
AnswersChange owner present set (answer.Refused status tag more) p acts turn =
    ((status ≡ 401) × Resolves owner present set p acts turn) ⊎ ((status ≢ 401) × Drops (refusal.Refused status tag) p acts turn)
AnswersChange owner present set (answer.Params params) p acts turn = ⊥
AnswersChange owner present set (answer.Sync conflicts cursor retrieved saved token) p acts turn = ⊥

-- a set of the password is drawn and kept as asked for, and then asked for
abbrev pub AsksForNew : Bytes → ℕ → OwnerRow → KeySet → Point → List Act → Turn → Type 0
AsksForNew password cost owner present p acts turn = (set : KeySet) × (left : ChaCha) × IsNewSet p.words owner.identifier password cost set left
    × Then (CommitsStep (asks set)) (AsksHost (change_to owner present set) (AnswersChange owner present set))
    (record { made = p.made; rows = p.rows; words = left }) acts turn

-- no change may begin; or as many exchanges were made as a call may make; or memory is wanting; else a new set is asked for
abbrev pub AsksFor : Bytes → ℕ → Point → List Act → Turn → Type 0
AsksFor password cost p acts turn = EndsBy refusal.Memory p acts turn
    ⊎ ((owner : OwnerRow) × (sets : Sets) × HasSets p.rows owner sets
    × (((why : ClientError) × RefusesChange p.rows sets why × EndsBy why p acts turn)
    ⊎ (MayAsk p.rows sets × (((p.made ≡ most_exchanges) × EndsBy refusal.RoundsUsed p acts turn)
    ⊎ ((p.made < most_exchanges) × AsksForNew password cost owner sets.present p acts turn)))))

-- the device and its server are brought together, the new set is asked for, and they are brought together again
abbrev pub ChangesTo : Bytes → ℕ → OwnerRow → Sets → Point → List Act → Turn → Type 0
ChangesTo password cost owner sets = Then (SyncsUnder owner sets) (Then (AsksFor password cost) Exchanges)

-- a cost that isn't taken; else the password is changed
abbrev pub ChangesPassword : ℕ → Bytes → ℕ → Rows → ChaCha → OwnerRow → Sets → List Act → Halt → Type 0
ChangesPassword least password cost rows words owner sets acts halt =
    (IsBadCost least cost × Refuses acts halt (refusal.Cost cost))
    ⊎ (¬ (IsBadCost least cost) × AnswersNothing (ChangesTo password cost owner sets) (begun rows words) acts halt)

abbrev pub RunsPasswd : ℕ → Bytes → ℕ → Rows → ChaCha → List Act → Halt → Type 0
RunsPasswd least password cost rows words acts halt = WithAccount rows (ChangesPassword least password cost rows words) acts halt

-- ---- each call

abbrev pub RunsCall : ℕ → Call → Rows → ChaCha → List Act → Halt → Type 0
RunsCall least (register identifier password cost) rows words acts halt = RunsRegister least identifier password cost rows words acts halt
RunsCall least (sign_in identifier password) rows words acts halt = RunsSignIn least identifier password rows words acts halt
RunsCall least (put kind text) rows words acts halt = RunsPut kind text rows words acts halt
RunsCall least (edit uuid text) rows words acts halt = RunsEdit uuid text rows words acts halt
RunsCall least (delete uuid) rows words acts halt = RunsDelete uuid rows words acts halt
RunsCall least list rows words acts halt = RunsList rows words acts halt
RunsCall least (content uuid) rows words acts halt = RunsContent uuid rows words acts halt
RunsCall least sync rows words acts halt = RunsSync rows words acts halt
RunsCall least (passwd password cost) rows words acts halt = RunsPasswd least password cost rows words acts halt

-- a device that takes no lower cost than this one makes the call on these rows, with these words: what it does, one commit an act, and how it ends
abbrev pub Run : ℕ → Call → Rows → ChaCha → List Act → Halt → Type 0
Run least call rows words acts halt = Wants acts halt ⊎ RunsCall least call rows words acts halt

-- the rows after acts
abbrev pub rows_done : Rows → List Act → Rows
rows_done rows [] = rows
rows_done rows (commits what changes ∷ acts) = rows_done (rows_after rows changes) acts
rows_done rows (asked r reply ∷ acts) = rows_done rows acts

-- the exchanges with a host are those of the acts, in order
abbrev pub AreExchanges : Bytes → List Act → List Exchange → Type 0
AreExchanges host [] exchanges = exchanges ≡ []
AreExchanges host (commits what changes ∷ acts) exchanges = AreExchanges host acts exchanges
AreExchanges host (asked r reply ∷ acts) exchanges =
    (x : Exchange) × (later : List Exchange) × (exchanges ≡ x ∷ later) × IsExchange host r reply x × AreExchanges host acts later
