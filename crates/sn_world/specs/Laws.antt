-- What each step keeps.
use Rattle.std.specs.Prelude.{◌≡◌, ◌≢◌, ℕ, List, [], ◌∷◌, length, Option, Some, None}
use Rattle.sn_account.specs.Tells.{AreApart, IsSavedOf, uuids}
use Rattle.sn_laws.specs.Each.{Each}
use Rattle.sn_account.specs.Lookups.{IsNamed}
use Rattle.sn_account.specs.Rule.{Rule}
use Rattle.sn_account.specs.Rules.{IsPresent}
use Rattle.sn_keys.specs.Keys.{check_value}
use Rattle.sn_laws.specs.Lookups.{Bytes, draft_at, empty}
use Rattle.sn_shows.specs.Laws.{HasAccount}
use Rattle.sn_shows.specs.Servers.{account_at}
use Rattle.sn_shows.specs.Sets.{set_at}
use Rattle.sn_laws.specs.Runs.{Legal, LegalFrom, end, end_from}
use Rattle.sn_laws.specs.declared.ideal.Account.{Account}
use Rattle.sn_laws.specs.declared.ideal.Device.{Device}
use Rattle.sn_laws.specs.declared.ideal.Ideal.{Ideal}
use Rattle.sn_laws.specs.declared.moves.Move.{Move}
use Rattle.sn_laws.specs.declared.moves.Move.TheVariants.{Register, Settle}
use Rattle.sn_rows.specs.declared.change.Change.{Change}
use Rattle.sn_rows.specs.declared.device_rows.LocalItem.{LocalItem}
use Rattle.sn_rows.specs.declared.device_rows.OwnerRow.{OwnerRow}
use Rattle.sn_laws.specs.Moves.{after}
use Rattle.sn_string.specs.declared.params.KeySet.{KeySet}
use Rattle.sn_string.specs.declared.params.Params.{Params}
use Rattle.sn_sync.specs.declared.answer.Answer.{Answer}
use Rattle.sn_sync.specs.declared.answer.Answer.TheVariants as answer
use Rattle.sn_sync.specs.declared.request.Request.{Request}
use Rattle.sn_sync.specs.declared.request.Request.TheVariants as request
use Rattle.sn_sync.specs.declared.answer.Conflict.{Conflict}
use Rattle.sn_sync.specs.declared.item.Item.{Item}
use Rattle.sn_device.specs.Runs.{Sends, items_of}
use Rattle.sn_rows.specs.Table.{Rows, rows_after}
use Rattle.sn_world.specs.Committing.{AreDifferent, Commits, MayAdopt, MayBegin, MayCommit, MayRenew, SaysCommit}
use Rattle.sn_world.specs.Settling.{MeetsOwnLast, TakesLast}
use Rattle.sn_device.specs.States.{HasOwner, HasSets, IsSound, token_of}
use Rattle.sn_sets.specs.declared.sets.Sets.{Sets}
use Rattle.sn_device.specs.Steps.{What, applies}
use Rattle.sn_world.specs.First.{Starts}
use Rattle.sn_world.specs.Happens.{Does, Happens, Says, Trace}
use Rattle.sn_world.specs.Holds.{Holds, IsSync, TokensDiffer}
use Rattle.sn_world.specs.Applying.{Tells}
use Rattle.sn_world.specs.Making.{HasTokens, IsSentOf, MakesRequest, MakesChange, MakesOf, SendsPosted, SendsTokens}
use Rattle.sn_world.specs.Pulled.{HasAll, StandOnLasts}
use Rattle.sn_world.specs.Serving.{SaysServed, Serves}
use Rattle.sn_world.specs.World.{Made, OnDevice, World, at_first}

-- these moves are legal, and the invariant holds after them
abbrev pub KeptBy : Bytes → World → Ideal → List Move → Type 0
KeptBy secret next s moves = LegalFrom s moves × Holds secret next (end_from s moves)

-- it holds before anything happened, of whatever secret the server will have
abbrev pub HoldsFirst : Type 0
HoldsFirst = (secret : Bytes) → Holds secret at_first empty

-- ---- the server

-- its first commit
abbrev pub KeepsStarting : Type 0
KeepsStarting = (secret : Bytes) (w next : World) (s : Ideal) (changes : List Change) → Holds secret w s → Starts w next secret changes → KeptBy secret next s []

-- any request that was made, served at any time, as often as may be
abbrev pub KeepsServing : Type 0
KeepsServing = (secret : Bytes) (w next : World) (s : Ideal) (m : Made) (now : ℕ) (changes : List Change) (given : Answer) (moves : List Move)
    → TokensDiffer secret → Holds secret w s → Serves w next m now changes given → SaysServed w.server (w.devices m.device) m changes moves → KeptBy secret next s moves

-- a registration that is answered with an account: with its token and uuid a device may begin, with the set that was asked for
abbrev pub RegisteredBegins : Type 0
RegisteredBegins = (secret : Bytes) (w next : World) (s : Ideal) (m : Made) (params : Params) (pw : Bytes) (now : ℕ) (changes : List Change)
    (token identifier uuid : Bytes) (set : KeySet) → Holds secret w s → Serves w next m now changes (answer.Account token identifier uuid)
    → m.request ≡ request.Register params pw → m.begins ≡ Some set → MayBegin secret (after s (Register params.identifier set)) set uuid token

-- the account's last set is no other with these parameters and this check value: so it is where no second password was found that has the check value of the
-- first
abbrev pub IsOnlySet : Ideal → KeySet → Type 0
IsOnlySet s set = (n : ℕ) (a : Account) (last : KeySet) → account_at n s.accounts ≡ Some a → set_at (length a.sets) a.sets ≡ Some last
    → last.params ≡ set.params → check_value last.pw ≡ check_value set.pw → last ≡ set

-- a sign-in with a set of the account's present parameters that is answered with an account: with its token and uuid a device may begin
abbrev pub SignedInBegins : Type 0
SignedInBegins = (secret : Bytes) (w : World) (s : Ideal) (identifier : Bytes) (now : ℕ) (changes : List Change) (token name uuid : Bytes) (set : KeySet)
    → Holds secret w s → Rule w.server (request.SignIn identifier set.pw) now changes (answer.Account token name uuid)
    → ((n : ℕ) → IsNamed w.server identifier n → IsPresent w.server n set.params) → IsOnlySet s set → MayBegin secret s set uuid token

-- and a device whose greatest set has those parameters may renew its token with it
abbrev pub SignedInRenews : Type 0
SignedInRenews = (secret : Bytes) (w : World) (s : Ideal) (identifier pw : Bytes) (now : ℕ) (changes : List Change) (token account uuid name : Bytes)
    (owner : OwnerRow) (sets : Sets) → Holds secret w s → Rule w.server (request.SignIn identifier pw) now changes (answer.Account token account uuid)
    → HasSets (w.devices name) owner sets → owner.identifier ≡ identifier
    → ((n : ℕ) → IsNamed w.server identifier n → IsPresent w.server n sets.present.params) → MayRenew secret s name token

-- a device that doesn't hold the account's present parameters, and signs in with a set of those, may adopt it
abbrev pub SignedInAdopts : Type 0
SignedInAdopts = (secret : Bytes) (w : World) (s : Ideal) (identifier : Bytes) (now : ℕ) (changes : List Change) (token account uuid name : Bytes)
    (owner : OwnerRow) (sets : Sets) (set : KeySet) → Holds secret w s
    → Rule w.server (request.SignIn identifier set.pw) now changes (answer.Account token account uuid)
    → HasSets (w.devices name) owner sets → owner.identifier ≡ identifier → set.params ≢ sets.present.params
    → ((n : ℕ) → IsNamed w.server identifier n → IsPresent w.server n set.params) → IsOnlySet s set → MayAdopt secret s name set token

-- a change of password of a device that is answered with an account: the device may adopt the set that was asked for
abbrev pub ChangedAdopts : Type 0
ChangedAdopts = (secret : Bytes) (w next : World) (s : Ideal) (m : Made) (now : ℕ) (changes : List Change) (moves : List Move)
    (token identifier uuid : Bytes) (set : KeySet) → TokensDiffer secret → Holds secret w s → MakesChange (w.devices m.device) (Some set) m.request
    → m.begins ≡ Some set → Serves w next m now changes (answer.Account token identifier uuid)
    → SaysServed w.server (w.devices m.device) m changes moves → MayAdopt secret (end_from s moves) m.device set token

-- a sync of a device's rows, from its tokens on, whose items have different uuids: where it is answered, the answer tells the device the rows as they are left
abbrev pub ServedTells : Type 0
ServedTells = (secret : Bytes) (w next : World) (s : Ideal) (m : Made) (token : Bytes) (items : List Item) (now : ℕ) (changes : List Change) (moves : List Move)
    (conflicts : List Conflict) (cursor : Option Bytes) (retrieved saved : List Item) (next_token : Bytes)
    → TokensDiffer secret → Holds secret w s → (sync : IsSync m token items) → Each (IsSentOf (w.devices m.device)) items
    → HasTokens (w.devices m.device) sync.sync_token sync.cursor_token → AreApart (uuids items)
    → Serves w next m now changes (answer.Sync conflicts cursor retrieved saved next_token) → SaysServed w.server (w.devices m.device) m changes moves
    → Tells next.server (next.devices m.device) (end_from s moves) m.device items conflicts cursor retrieved saved next_token

-- ---- requests

-- a request that a device's rows give, delivered or not
abbrev pub KeepsMaking : Type 0
KeepsMaking = (secret : Bytes) (w next : World) (s : Ideal) (m : Made) → TokensDiffer secret → Holds secret w s → MakesRequest w next m → Holds secret next s

-- what a round of a device's sync posts and sends: no draft is posted twice, the request is of rows that are posted or to be sealed again, and from their
-- tokens on, and its items have different uuids
abbrev pub SendsArePosted : Type 0
SendsArePosted = (rows : Rows) (numbers : List ℕ) (posted : List Change) (r : Request) (ready : Rows) → IsSound rows → Sends rows numbers posted r ready
    → AreDifferent numbers × ((begins : Option KeySet) → MakesOf ready begins r) × AreApart (uuids (items_of r)) × SendsTokens ready r

-- ---- devices

-- a commit, of any of these kinds
abbrev pub KeepsCommitting : Type 0
KeepsCommitting = (secret : Bytes) (w next : World) (s : Ideal) (name : Bytes) (what : What) (changes : List Change) (moves : List Move)
    → TokensDiffer secret → Holds secret w s → Commits w next name what changes → MayCommit secret w.server (w.devices name) s name what
    → SaysCommit (w.devices name) s name what changes moves → KeptBy secret next s moves

-- an answer without a cursor, applied: the device has all versions of its account
abbrev pub AppliedWhole : Type 0
AppliedWhole = (secret : Bytes) (w next : World) (s : Ideal) (name : Bytes) (r : Request) (conflicts : List Conflict) (retrieved saved : List Item) (token : Bytes)
    (changes : List Change) (moves : List Move) → Holds secret w s → Commits w next name (applies r (answer.Sync conflicts None retrieved saved token)) changes
    → MayCommit secret w.server (w.devices name) s name (applies r (answer.Sync conflicts None retrieved saved token))
    → SaysCommit (w.devices name) s name (applies r (answer.Sync conflicts None retrieved saved token)) changes moves
    → HasAll (next.devices name) (end_from s moves) name

-- where it has these, and no draft, its rows stand on just the undeleted last versions of its account
abbrev pub SyncedRows : Type 0
SyncedRows = (secret : Bytes) (w : World) (s : Ideal) (name : Bytes) (d : Device) (a : Account) → Holds secret w s → HasAccount s name d a
    → ((uuid : Bytes) → draft_at s name uuid ≡ None) → HasAll (w.devices name) s name → StandOnLasts (w.devices name) a

-- ---- all of it

-- any step
abbrev pub Keeps : Type 0
Keeps = (secret : Bytes) (w next : World) (s : Ideal) (step : Happens) (moves : List Move)
    → TokensDiffer secret → Holds secret w s → Does secret w s step next → Says w s step moves → KeptBy secret next s moves

-- each step has its moves
abbrev pub SaysSome : Type 0
SaysSome = (secret : Bytes) (w next : World) (s : Ideal) (step : Happens) → Holds secret w s → Does secret w s step next
    → (moves : List Move) × Says w s step moves

-- whatever happens, from the beginning on: the moves are legal, and the invariant holds with the state to which they lead
abbrev pub TraceKeeps : Type 0
TraceKeeps = (secret : Bytes) (steps : List Happens) (moves : List Move) (next : World)
    → TokensDiffer secret → Trace secret at_first empty steps moves next → Legal moves × Holds secret next (end moves)

-- ---- one version of an answer

-- the server's last version of an item, which is saved as it was sent and has the draft's content, applied to its row, on a device that has a sync token: the
-- draft is settled
pub record Settles (w next : World) (s : Ideal) (name : Bytes) (change : Change) (local : LocalItem) (i : Item) : Type 0 where
  pub n : ℕ
  pub number : ℕ
  pub account : Account
  pub device : Device
  pub meets : MeetsOwnLast w.server (w.devices name) s name n number account device local i
  pub sent : Item
  pub sends : SendsPosted local sent
  pub saved : IsSavedOf sent i
  pub takes : TakesLast meets.meets.sets change number i None
  pub sound : IsSound (rows_after (w.devices name) (change ∷ []))
  pub synced : (owner : OwnerRow) → HasOwner (w.devices name) owner → token_of owner.sync_token ≢ None
  pub on : OnDevice w next name (change ∷ [])

-- it may be settled, and the invariant holds then
abbrev pub KeepsSettling : Type 0
KeepsSettling = (secret : Bytes) (w next : World) (s : Ideal) (name : Bytes) (change : Change) (local : LocalItem) (i : Item)
    → TokensDiffer secret → Holds secret w s → Settles w next s name change local i → KeptBy secret next s (Settle name i.uuid ∷ [])
