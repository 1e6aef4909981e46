-- The moves of a call by its batches and its exchanges alone, as they follow one another.
use Rattle.std.specs.List.{list_any}
use Rattle.std.specs.Prelude.{◌≡◌, List, [], ◌∷◌, ◌++◌, Bool, true, false, IsTrue, Option, Some, None, if◌then◌else◌}
use Rattle.sn_device.specs.Asking.{IsReply, IsRequestBytes, said}
use Rattle.sn_laws.specs.Lookups.{Bytes}
use Rattle.sn_laws.specs.declared.moves.Move.{Move}
use Rattle.sn_link.specs.Laws.{IsReadable}
use Rattle.sn_moves.specs.Commits.{moves_of}
use Rattle.sn_moves.specs.Drafts.{item_left}
use Rattle.sn_moves.specs.Foreign.{foreign_in}
use Rattle.sn_moves.specs.declared.done.Done.{Done}
use Rattle.sn_moves.specs.declared.done.Done.TheVariants as done
use Rattle.sn_order.specs.Kinds.{kind_of}
use Rattle.sn_order.specs.Order.{comes_first, is_sync}
use Rattle.sn_order.specs.declared.kind.Kind.{Kind}
use Rattle.sn_order.specs.declared.kind.Kind.TheVariants as kind
use Rattle.sn_recorder.specs.declared.exchanged.Exchanged.{Exchanged}
use Rattle.sn_rows.specs.Table.{Rows, rows_after}
use Rattle.sn_rows.specs.declared.change.Change.{Change}
use Rattle.sn_rows.specs.declared.change.Change.TheVariants.{Put, Remove}
use Rattle.sn_rows.specs.declared.device_rows.LocalItem.{LocalItem}
use Rattle.sn_rows.specs.declared.key.Key.TheVariants as key
use Rattle.sn_rows.specs.declared.value.Value.{Value}
use Rattle.sn_saying.specs.Adopted.{IsAdoption}
use Rattle.sn_saying.specs.Joined.{IsJoining}
use Rattle.sn_saying.specs.Retired.{IsRetirement}
use Rattle.sn_saying.specs.Served.{IsServing}
use Rattle.sn_string.specs.declared.params.KeySet.{KeySet}
use Rattle.sn_sync.specs.declared.answer.Answer.{Answer}
use Rattle.sn_sync.specs.declared.request.Request.{Request}
use Rattle.sn_sync.specs.declared.request.Request.TheVariants as request
use Rattle.sn_sync.specs.declared.request.Route.TheVariants as route
use Rattle.sn_world.specs.Calls.{IsAskedFor}
use Rattle.sn_telling.specs.declared.calling.Calling.{Calling}
use Rattle.sn_telling.specs.declared.calling.Calling.TheVariants as calling
use Rattle.sn_telling.specs.declared.doing.Doing.{Doing}
use Rattle.sn_telling.specs.declared.doing.Doing.TheVariants as doing
use Rattle.sn_telling.specs.declared.known.Known.{Known}
use Rattle.sn_telling.specs.declared.known.Known.TheVariants as known

-- the rows behind several batches
abbrev pub rows_behind_all : Rows → List (List Change) → Rows
rows_behind_all rows [] = rows
rows_behind_all rows (batch ∷ batches) = rows_behind_all (rows_after rows batch) batches

-- ---- what a device did in a commit

-- these are the uuids that another account has, by the bytes of an answer to a sync
abbrev pub HasForeign : Option Bytes → List Bytes → Type 0
HasForeign answer foreign = (given : Answer) → IsReply route.Sync answer (said given) → foreign ≡ foreign_in given

-- the change takes an item's row away
abbrev pub takes_item : Change → Bool
takes_item (Put row) = false
takes_item (Remove (key.Local number)) = true
takes_item (Remove at) = false

-- they are so where one of the changes takes an item's row away, and any elsewhere, since no move of another change depends on them
abbrev pub IsForeign : Option Bytes → List Change → List Bytes → Type 0
IsForeign answer changes foreign = IsTrue (list_any takes_item changes) → HasForeign answer foreign

-- the item that the first change leaves
abbrev pub first_item : List Change → Option LocalItem
first_item [] = None
first_item (change ∷ changes) = item_left change

-- a new item has the uuid of its row
abbrev pub put_done : Bytes → Bytes → Option LocalItem → Done
put_done kind text None = done.Renews
put_done kind text (Some local) = done.Puts local.uuid kind text

-- at a sign-in a device without an account begins, and one that has it adopts a set, or takes another session token
abbrev pub joined_or_renewed : Kind → Doing
joined_or_renewed kind.Joins = doing.Adopts
joined_or_renewed kind.Asks = doing.Other done.Renews
joined_or_renewed kind.Forgets = doing.Other done.Renews
joined_or_renewed kind.Counts = doing.Other done.Renews
joined_or_renewed kind.Drafts = doing.Other done.Renews

abbrev pub signed_in : Bytes → Kind → Option Value → Doing
signed_in identifier what None = doing.Begins identifier
signed_in identifier what (Some owner) = joined_or_renewed what

-- in a sync or a change of password: a set is adopted, an answer is applied, drafts are posted, and nothing else says a move
abbrev pub IsSynced : Kind → Option Bytes → List Change → Doing → Type 0
IsSynced kind.Joins answer changes did = did ≡ doing.Adopts
IsSynced kind.Counts answer changes did = (foreign : List Bytes) × IsForeign answer changes foreign × (did ≡ doing.Applies foreign)
IsSynced kind.Drafts answer changes did = did ≡ doing.Other done.Posts
IsSynced kind.Asks answer changes did = did ≡ doing.Other done.Renews
IsSynced kind.Forgets answer changes did = did ≡ doing.Other done.Renews

-- by the call, the last answer before the commit, the device's rows and the changes
abbrev pub IsDoing : Calling → Option Bytes → Rows → List Change → Doing → Type 0
IsDoing (calling.Register identifier set) answer rows changes did = did ≡ doing.Begins identifier
IsDoing (calling.SignIn identifier) answer rows changes did = did ≡ signed_in identifier (kind_of changes) (rows key.Owner)
IsDoing (calling.Put kind text) answer rows changes did = did ≡ doing.Other (put_done kind text (first_item changes))
IsDoing (calling.Edit text) answer rows changes did = did ≡ doing.Other (done.Edits text)
IsDoing calling.Delete answer rows changes did = did ≡ doing.Other done.Deletes
IsDoing calling.Sync answer rows changes did = IsSynced (kind_of changes) answer changes did
IsDoing calling.Passwd answer rows changes did = IsSynced (kind_of changes) answer changes did

-- ---- the moves of a commit

-- over the rows of both ends before it
abbrev pub SaysDoing : Rows → Rows → Bytes → Doing → List Change → List Move → Type 0
SaysDoing server rows name (doing.Begins identifier) changes moves = IsJoining server name identifier moves
SaysDoing server rows name doing.Adopts changes moves = IsAdoption server rows name moves
SaysDoing server rows name (doing.Applies foreign) changes moves =
    (later : List Move) × IsRetirement server rows name changes later × (moves ≡ moves_of rows name (done.Applies foreign) changes ++ later)
SaysDoing server rows name (doing.Other did) changes moves = moves ≡ moves_of rows name did changes

abbrev pub SaysBatch : Calling → Rows → Rows → Bytes → Option Bytes → List Change → List Move → Type 0
SaysBatch call server rows name answer changes moves = (did : Doing) × IsDoing call answer rows changes did × SaysDoing server rows name did changes moves

-- of several, between which the server does nothing
abbrev pub SaysBatches : Calling → Rows → Rows → Bytes → Option Bytes → List (List Change) → List Move → Type 0
SaysBatches call server rows name answer [] moves = moves ≡ []
SaysBatches call server rows name answer (batch ∷ batches) moves =
    (first : List Move) × (later : List Move) × SaysBatch call server rows name answer batch first
    × SaysBatches call server (rows_after rows batch) name answer batches later × (moves ≡ first ++ later)

-- ---- an exchange

-- what is known of a request: of a sync that it is one, since no move depends on what it sends, and any other whole
abbrev pub known_of : Request → Known
known_of (request.Register params pw) = known.Other (request.Register params pw)
known_of (request.Params identifier) = known.Other (request.Params identifier)
known_of (request.SignIn identifier pw) = known.Other (request.SignIn identifier pw)
known_of (request.ChangePw token current pw cost nonce) = known.Other (request.ChangePw token current pw cost nonce)
known_of (request.Sync token items limit sync_token cursor_token) = known.Sync

-- that of the request, by its bytes; of one that a server doesn't read there may be none
abbrev pub IsReadAs : Bytes → Option Known → Type 0
IsReadAs bytes found = (host : Bytes) (r : Request) → IsRequestBytes host r bytes → IsReadable host r → found ≡ Some (known_of r)

-- whether a request of which this is known asks for a sync
abbrev pub asks_sync : Option Known → Bool
asks_sync None = false
asks_sync (Some known.Sync) = true
asks_sync (Some (known.Other r)) = is_sync r

-- the set that a registration gives
abbrev pub set_given : Calling → Option KeySet
set_given (calling.Register identifier set) = set
set_given (calling.SignIn identifier) = None
set_given (calling.Put kind text) = None
set_given (calling.Edit text) = None
set_given calling.Delete = None
set_given calling.Sync = None
set_given calling.Passwd = None

-- what it would begin, by the device's rows: a registration the set of its call, a change of password the set that is asked for, and any other request none
abbrev pub IsBegunIn : Calling → Rows → Option Known → Option KeySet → Type 0
IsBegunIn call rows None begins = begins ≡ None
IsBegunIn call rows (Some known.Sync) begins = begins ≡ None
IsBegunIn call rows (Some (known.Other (request.Register params pw))) begins = begins ≡ set_given call
IsBegunIn call rows (Some (known.Other (request.ChangePw token current pw cost nonce))) begins = (set : KeySet) → IsAskedFor rows set → begins ≡ Some set
IsBegunIn call rows (Some (known.Other (request.Params identifier))) begins = begins ≡ None
IsBegunIn call rows (Some (known.Other (request.SignIn identifier pw))) begins = begins ≡ None
IsBegunIn call rows (Some (known.Other (request.Sync token items limit sync_token cursor_token))) begins = begins ≡ None

-- a batch by which the server answers a request of which this is known, whichever it is
abbrev pub IsServingKnown : Rows → Rows → Bytes → Option KeySet → Known → List Change → List Move → Type 0
IsServingKnown server rows name begins k batch moves = (r : Request) → known_of r ≡ k → IsServing server rows name begins r batch moves

-- the server answered the request of the device of this name, and its store gained these batches
abbrev pub SaysGained : Rows → Rows → Bytes → Option KeySet → Option Known → List (List Change) → List Move → Type 0
SaysGained server rows name begins None batches moves = moves ≡ []
SaysGained server rows name begins (Some k) [] moves = moves ≡ []
SaysGained server rows name begins (Some k) (batch ∷ batches) moves =
    (first : List Move) × (later : List Move) × IsServingKnown server rows name begins k batch first
    × SaysGained (rows_after server batch) rows name begins (Some k) batches later × (moves ≡ first ++ later)

-- ---- a whole call

-- the batches of the device that come before its next request, behind a sync or not, and those that come after it
abbrev pub front : Bool → Bool → List (List Change) → List (List Change)
front heard syncs [] = []
front heard syncs (batch ∷ batches) = if comes_first heard (kind_of batch) syncs then batch ∷ front false syncs batches else []

abbrev pub rest : Bool → Bool → List (List Change) → List (List Change)
rest heard syncs [] = []
rest heard syncs (batch ∷ batches) = if comes_first heard (kind_of batch) syncs then rest false syncs batches else batch ∷ batches

-- its moves, what each of its requests would begin, and the rows of both ends behind it; behind a sync or not, with this last answer
abbrev pub SaysWalk : Calling → Bytes → Rows → Rows → Bool → Option Bytes → List (List Change) → List Exchanged → List Move → List (Option KeySet) → Rows → Rows
    → Type 0
SaysWalk call name server rows heard answer batches [] moves begun server_end rows_end =
    SaysBatches call server rows name answer batches moves × (begun ≡ []) × (server_end ≡ server) × (rows_end ≡ rows_behind_all rows batches)
SaysWalk call name server rows heard answer batches (e ∷ exchanged) moves begun server_end rows_end =
    (found : Option Known) × (first : List Move) × (served : List Move) × (later : List Move) × (begins : Option KeySet) × (others : List (Option KeySet))
    × IsReadAs e.request found
    × SaysBatches call server rows name answer (front heard (asks_sync found) batches) first
    × IsBegunIn call (rows_behind_all rows (front heard (asks_sync found) batches)) found begins
    × SaysGained server (rows_behind_all rows (front heard (asks_sync found) batches)) name begins found e.batches served
    × SaysWalk call name (rows_behind_all server e.batches) (rows_behind_all rows (front heard (asks_sync found) batches)) (asks_sync found) e.answer
    (rest heard (asks_sync found) batches) exchanged later others server_end rows_end
    × (begun ≡ begins ∷ others) × (moves ≡ first ++ (served ++ later))

-- the requests of exchanges, in order
abbrev pub requests_in : List Exchanged → List Bytes
requests_in [] = []
requests_in (e ∷ exchanged) = e.request ∷ requests_in exchanged
