-- How a sync ends over a server that answers by its rule, where no request is lost, no answer is, and no crash takes a commit away, and no password was
-- changed.
use Rattle.std.specs.Prelude.{◌≡◌, ◌⊎◌, ◌+◌, ℕ, List, [], ◌∷◌, ◌++◌, true, Option, None, codes}
use Rattle.std.specs.List.{flat_map}
use Rattle.rand_chacha.specs.ChaCha.{ChaCha}
use Rattle.sn_account.specs.Incoming.{RunsOut as RunsOutOfStamps}
use Rattle.sn_account.specs.Lookups.{HasStore}
use Rattle.sn_account.specs.Rules.{IsPresent}
use Rattle.sn_account.specs.Sessions.{IsSession}
use Rattle.sn_account.specs.Syncs.{start as before_first}
use Rattle.sn_device.specs.Asking.{said, session_of}
use Rattle.sn_device.specs.Runs.{Act, AreRounds, Halt, IsDone, IsDue, Round, Run, Sends, Standing, acts_of, answered, asked, broken, commits as committed, items_of, most_exchanges, nothing, posting, refused, sync}
use Rattle.sn_device.specs.States.{HasOwner, HasSets}
use Rattle.sn_device.specs.Steps.{What, start}
use Rattle.sn_device.specs.Taking.{RunsOut, told_by}
use Rattle.sn_device.specs.declared.error.ClientError.{ClientError}
use Rattle.sn_device.specs.declared.error.ClientError.TheVariants as refusal
use Rattle.sn_conflict.specs.Checks.{Passes}
use Rattle.sn_laws.specs.Each.{Each}
use Rattle.sn_laws.specs.Lookups.{Bytes, empty}
use Rattle.sn_laws.specs.declared.ideal.Ideal.{Ideal}
use Rattle.sn_laws.specs.declared.moves.Move.{Move}
use Rattle.sn_rows.specs.Table.{Rows}
use Rattle.sn_rows.specs.declared.change.Change.{Change}
use Rattle.sn_rows.specs.declared.device_rows.OwnerRow.{OwnerRow}
use Rattle.sn_rows.specs.declared.server_rows.StoreRow.{StoreRow}
use Rattle.sn_sets.specs.declared.sets.Sets.{Sets}
use Rattle.sn_string.specs.declared.params.Params.{Params}
use Rattle.sn_sync.specs.declared.answer.Answer.{Answer}
use Rattle.sn_sync.specs.declared.answer.Answer.TheVariants as answer
use Rattle.sn_sync.specs.declared.answer.Conflict.{Conflict}
use Rattle.sn_sync.specs.declared.answer.More.TheVariants as more
use Rattle.sn_sync.specs.declared.item.Item.{Item}
use Rattle.sn_sync.specs.declared.request.Request.{Request}
use Rattle.sn_world.specs.Calls.{Fate, crashed, rows_served, served, undelivered}
use Rattle.sn_world.specs.Delivered.{AreServedBy}
use Rattle.sn_world.specs.Fitting.{FitsUuids}
use Rattle.sn_world.specs.Happens.{Happens, Trace}
use Rattle.sn_world.specs.Holds.{TokensDiffer}
use Rattle.sn_world.specs.Plain.{HoldsPlain, IsPlainStep}
use Rattle.sn_world.specs.World.{World, at_first}

-- ---- nothing is lost

-- the request is served, its commit stands, and its answer arrives
abbrev pub Arrives : Fate → Type 0
Arrives undelivered = ⊥
Arrives (served now changes given arrives) = arrives ≡ true
Arrives (crashed now changes given) = ⊥

-- ---- where a sync ends

-- how many requests there are among acts
abbrev pub requests_in : List Act → ℕ
requests_in [] = 0
requests_in (committed what changes ∷ acts) = requests_in acts
requests_in (asked r reply ∷ acts) = 1 + requests_in acts

-- behind the exchanges whose answers were applied, with what is done after them
pub record AfterRounds (rows : Rows) (words : ChaCha) (acts : List Act) : Type 0 where
  pub rounds : List Round
  pub at : Standing
  pub went : AreRounds (record { rows = rows; words = words; last = None }) rounds at
  pub later : List Act
  pub acts_are : acts ≡ flat_map acts_of rounds ++ later

-- what is done after them is one request more, of what the device sends there, and this comes back
pub record Asks (at : Standing) (later : List Act) (given : Answer) : Type 0 where
  pub numbers : List ℕ
  pub posted : List Change
  pub request : Request
  pub ready : Rows
  pub sends : Sends at.rows numbers posted request ready
  pub later_is : later ≡ posting numbers posted ++ asked request (said given) ∷ []

-- ---- how

-- it is answered: the last answer has no cursor, and nothing waits
pub record IsAnswered (rows : Rows) (words : ChaCha) (acts : List Act) (halt : Halt) : Type 0 where
  pub behind : AfterRounds rows words acts
  pub no_more : behind.later ≡ []
  pub done : IsDone behind.at.rows behind.at.last
  pub is : halt ≡ answered nothing behind.at.words

-- as many requests were made as a call may make, and one more is due
pub record UsesRounds (rows : Rows) (words : ChaCha) (acts : List Act) (halt : Halt) : Type 0 where
  pub behind : AfterRounds rows words acts
  pub no_more : behind.later ≡ []
  pub all : requests_in acts ≡ most_exchanges
  pub due : IsDue behind.at.rows behind.at.last
  pub is : halt ≡ refused refusal.RoundsUsed

-- the last answer passes the device's checks, but at one of the versions that it tells a new row is due and the local numbers are used up, or a fresh uuid
-- is and items have all sixteen that are drawn
pub record RanOut (rows : Rows) (words : ChaCha) (acts : List Act) (halt : Halt) : Type 0 where
  pub behind : AfterRounds rows words acts
  pub conflicts : List Conflict
  pub cursor : Option Bytes
  pub retrieved : List Item
  pub saved : List Item
  pub token : Bytes
  pub asks : Asks behind.at behind.later (answer.Sync conflicts cursor retrieved saved token)
  pub passes : Passes (items_of asks.request) saved conflicts retrieved cursor
  pub owner : OwnerRow
  pub sets : Sets
  pub holds : HasSets asks.ready owner sets
  pub why : ClientError
  pub out : RunsOut sets saved (start asks.ready owner behind.at.words) (told_by saved conflicts retrieved) why
  pub is : halt ≡ refused why

-- the server refuses the last request, with the last stamp that it gave: it would accept an item of it with a stamp past the last of all
pub record StampsUsed (server rows : Rows) (words : ChaCha) (acts : List Act) (fates : List Fate) (halt : Halt) : Type 0 where
  pub behind : AfterRounds rows words acts
  pub met : List Fate
  pub store : StoreRow
  pub stands : HasStore (rows_served server met) store
  pub asks : Asks behind.at behind.later (answer.Refused 409 (codes "stamps-used") (more.Number store.last))
  pub now : ℕ
  pub fates_are : fates ≡ met ++ served now [] (answer.Refused 409 (codes "stamps-used") (more.Number store.last)) true ∷ []
  pub number : ℕ
  pub session : IsSession (rows_served server met) (session_of asks.request) number
  pub present : Params
  pub present_is : IsPresent (rows_served server met) number present
  pub out : RunsOutOfStamps present now number (before_first (rows_served server met) store) (items_of asks.request)
  pub is : halt ≡ refused (refusal.Refused 409 (codes "stamps-used"))

-- or memory is wanting, or the device's disk fails in a commit. No other end is there: no answer is refused at a check, none is lost, the server refuses
-- nothing else, and no commit is longer than a batch
abbrev pub SyncEnds : Rows → Rows → ChaCha → List Act → List Fate → Halt → Type 0
SyncEnds server rows words acts fates halt = IsAnswered rows words acts halt ⊎ (UsesRounds rows words acts halt ⊎ (RanOut rows words acts halt
    ⊎ (StampsUsed server rows words acts fates halt ⊎ ((halt ≡ refused refusal.Memory)
    ⊎ ((what : What) × (changes : List Change) × (halt ≡ broken what changes))))))

-- ---- the laws

-- so ends each sync of a device that has an account, whatever it and others did before, but for a change of password: behind another device's change of it
-- the server doesn't take the session token any more
abbrev pub SyncsAnswer : Type 0
SyncsAnswer = (secret : Bytes) (w : World) (s : Ideal) (name : Bytes) (owner : OwnerRow) (least : ℕ) (words : ChaCha) (acts : List Act) (fates : List Fate)
    (halt : Halt) → TokensDiffer secret → HoldsPlain secret w s → HasOwner (w.devices name) owner → FitsUuids (w.devices name)
    → Run least sync (w.devices name) words acts halt → AreServedBy w.server acts fates
    → Each Arrives fates → SyncEnds w.server (w.devices name) words acts fates halt

-- and so ends each sync that loses nothing, whatever happened from the beginning on but for that
abbrev pub TracedSyncsAnswer : Type 0
TracedSyncsAnswer = (secret : Bytes) (steps : List Happens) (moves : List Move) (w : World) (name : Bytes) (owner : OwnerRow) (least : ℕ) (words : ChaCha)
    (acts : List Act) (fates : List Fate) (halt : Halt) → TokensDiffer secret → Trace secret at_first empty steps moves w
    → Each IsPlainStep steps → HasOwner (w.devices name) owner → Run least sync (w.devices name) words acts halt → AreServedBy w.server acts fates
    → Each Arrives fates → SyncEnds w.server (w.devices name) words acts fates halt
