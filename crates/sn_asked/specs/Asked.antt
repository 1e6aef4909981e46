-- How a sync ends of a device that keeps a set as asked for, where that set or its present one is its account's last, over a server that answers by its
-- rule, where no request is lost, no answer is, and no crash takes a commit away.
use Rattle.std.specs.Prelude.{◌≡◌, ◌≢◌, ◌⊎◌, ◌+◌, ℕ, List, [], ◌∷◌, length, true, Some, codes}
use Rattle.rand_chacha.specs.ChaCha.{ChaCha}
use Rattle.sn_account.specs.Lookups.{HasAccount as HasAccountRow, IsNamed}
use Rattle.sn_account.specs.Rules.{IsPresent}
use Rattle.sn_account.specs.Sessions.{IsSession}
use Rattle.sn_device.specs.Asking.{said}
use Rattle.sn_device.specs.Changing.{HoldsAsked}
use Rattle.sn_device.specs.Runs.{Act, Halt, IsBatch, Run, asked, broken, change_to, commits, refused, sync}
use Rattle.sn_device.specs.Steps.{Forgets, Step, What, adopts, forgets}
use Rattle.sn_device.specs.declared.error.ClientError.TheVariants as refusal
use Rattle.sn_laws.specs.Each.{Each}
use Rattle.sn_laws.specs.Lookups.{Bytes, empty}
use Rattle.sn_laws.specs.Runs.{end}
use Rattle.sn_laws.specs.declared.ideal.Account.{Account}
use Rattle.sn_laws.specs.declared.ideal.Device.{Device}
use Rattle.sn_laws.specs.declared.ideal.Ideal.{Ideal}
use Rattle.sn_laws.specs.declared.moves.Move.{Move}
use Rattle.sn_passwd.specs.Calls.{IsOnlyAsked}
use Rattle.sn_ready.specs.Passwds.{IsConflict, IsFinished, StopsRow}
use Rattle.sn_ready.specs.Ready.{HoldsLast}
use Rattle.sn_rows.specs.Spelling.{spelled}
use Rattle.sn_rows.specs.Table.{Rows, rows_after}
use Rattle.sn_rows.specs.declared.change.Change.{Change}
use Rattle.sn_rows.specs.declared.device_rows.OwnerRow.{OwnerRow}
use Rattle.sn_rows.specs.declared.server_rows.AccountRow.{AccountRow}
use Rattle.sn_shows.specs.Laws.{HasAccount}
use Rattle.sn_shows.specs.Sets.{set_at}
use Rattle.sn_string.specs.declared.params.KeySet.{KeySet}
use Rattle.sn_string.specs.declared.params.Params.{Params}
use Rattle.sn_sync.specs.declared.answer.Answer.TheVariants as answer
use Rattle.sn_sync.specs.declared.answer.More.{More}
use Rattle.sn_sync.specs.declared.answer.More.TheVariants as more
use Rattle.sn_sync.specs.declared.request.Request.{Request}
use Rattle.sn_sync.specs.declared.request.Request.TheVariants as request
use Rattle.sn_world.specs.Answering.{Arrives, IsAnswered, requests_in}
use Rattle.sn_world.specs.Calls.{AreServed, Fate, served}
use Rattle.sn_world.specs.Fitting.{FitsUuids}
use Rattle.sn_world.specs.Happens.{Happens, Trace}
use Rattle.sn_world.specs.Holds.{Holds, TokensDiffer}
use Rattle.sn_world.specs.World.{World, at_first}

-- ---- a device that is ready with a set asked for

-- the set is the last one of the device's account
abbrev pub IsLastSet : Ideal → Bytes → KeySet → Type 0
IsLastSet s name set = (d : Device) (a : Account) → HasAccount s name d a → set_at (length a.sets) a.sets ≡ Some set

-- the device has this account, this present set, and this one as asked for. The account's last set is the one that is asked for, where the change to it was
-- made and its answer was lost; or the greatest one that the device holds is, where it wasn't made
pub record IsAskedReady (rows : Rows) (s : Ideal) (name : Bytes) (owner : OwnerRow) (present set : KeySet) : Type 0 where
  pub holds : HoldsAsked rows owner present set
  pub last : IsLastSet s name set ⊎ HoldsLast s name

-- ---- the parameters

-- they are asked for first, and the server tells those of the account's present keys
pub record HearsParams (server : Rows) (owner : OwnerRow) (acts : List Act) (fates : List Fate) : Type 0 where
  pub number : ℕ
  pub named : IsNamed server owner.identifier number
  pub params : Params
  pub present_is : IsPresent server number params
  pub later : List Act
  pub acts_are : acts ≡ asked (request.Params owner.identifier) (said (answer.Params params)) ∷ later
  pub now : ℕ
  pub others : List Fate
  pub fates_are : fates ≡ served now [] (answer.Params params) true ∷ others

-- ---- the request behind them

-- they are those of the set that is asked for, and not of the present one, and the account's last set is that: the device signs in with it. Or they are the
-- present one's, which is the account's last: the change is sent again
abbrev pub IsNext : Ideal → Bytes → OwnerRow → KeySet → KeySet → Params → Request → Type 0
IsNext s name owner present set params r =
    (IsLastSet s name set × (params ≡ set.params) × (params ≢ present.params) × (r ≡ request.SignIn owner.identifier set.pw))
    ⊎ (HoldsLast s name × (params ≡ present.params) × (r ≡ change_to owner present set))

-- the server, with these rows, refuses the change for a conflict, and the set is dropped: where another's change of the password runs still, an item carries
-- a set before the last; or the account had the nonce; or it has as many sets as it may have
pub record RefusesAgain (s : Ideal) (name : Bytes) (owner : OwnerRow) (present set : KeySet) (server rows : Rows) (acts : List Act) (fates : List Fate)
    (first : HearsParams server owner acts fates) (halt : Halt) : Type 0 where
  pub last : HoldsLast s name
  pub same : first.params ≡ present.params
  pub session : IsSession server owner.token first.number
  pub account : AccountRow
  pub there : HasAccountRow server first.number account
  pub tag : Bytes
  pub further : More
  pub conflict : IsConflict (¬ (IsFinished s name)) server first.number account first.params set.params.pw_nonce tag further
  pub now : ℕ
  pub fates_are : first.others ≡ served now [] (answer.Refused 409 tag further) true ∷ []
  pub dropped : List Change
  pub drops : Forgets rows dropped
  pub later_is : first.later ≡ asked (change_to owner present set) (said (answer.Refused 409 tag further)) ∷ commits forgets dropped ∷ []
  pub is : halt ≡ refused (refusal.Refused 409 tag)

-- the request is answered with the account, whose session token it is then; of these changes is the adoption of the set
pub record HearsAccount (s : Ideal) (name : Bytes) (owner : OwnerRow) (present set : KeySet) (server rows : Rows) (words : ChaCha) (acts : List Act)
    (fates : List Fate) (first : HearsParams server owner acts fates) : Type 0 where
  pub request : Request
  pub next : IsNext s name owner present set first.params request
  pub token : Bytes
  pub identifier : Bytes
  pub uuid : Bytes
  pub now : ℕ
  pub changes : List Change
  pub others : List Fate
  pub fates_are : first.others ≡ served now changes (answer.Account token identifier uuid) true ∷ others
  pub session : IsSession (rows_after server changes) token first.number
  pub adopted : List Change
  pub left : ChaCha
  pub step : Step rows words (adopts set token) adopted left
  pub later : List Act
  pub later_is : first.later ≡ asked request (said (answer.Account token identifier uuid)) ∷ later

-- these are more than a batch
pub record IsTooLarge (s : Ideal) (name : Bytes) (owner : OwnerRow) (present set : KeySet) (server rows : Rows) (words : ChaCha) (acts : List Act)
    (fates : List Fate) (first : HearsParams server owner acts fates) (halt : Halt) : Type 0 where
  pub hears : HearsAccount s name owner present set server rows words acts fates first
  pub large : ¬ (IsBatch hears.adopted)
  pub no_more : hears.later ≡ []
  pub is : halt ≡ refused (refusal.TooLarge (length (spelled hears.adopted)))

-- the adoption is committed, and a row of exchanges is behind it. Nothing is left, and the call is answered; or the row isn't brought to its end
pub record IsResolved (s : Ideal) (name : Bytes) (owner : OwnerRow) (present set : KeySet) (server rows : Rows) (words : ChaCha) (acts : List Act)
    (fates : List Fate) (first : HearsParams server owner acts fates) (halt : Halt) : Type 0 where
  pub hears : HearsAccount s name owner present set server rows words acts fates first
  pub later : List Act
  pub later_is : hears.later ≡ commits (adopts set hears.token) hears.adopted ∷ later
  pub ends : IsAnswered (rows_after rows hears.adopted) hears.left later halt
      ⊎ StopsRow 2 (rows_after server hears.changes) (rows_after rows hears.adopted) hears.left later hears.others halt

-- ---- where a sync ends

-- so it ends behind the parameters
pub record EndsBehind (s : Ideal) (name : Bytes) (owner : OwnerRow) (present set : KeySet) (server rows : Rows) (words : ChaCha) (acts : List Act)
    (fates : List Fate) (halt : Halt) : Type 0 where
  pub first : HearsParams server owner acts fates
  pub ends : IsResolved s name owner present set server rows words acts fates first halt
      ⊎ (RefusesAgain s name owner present set server rows acts fates first halt
      ⊎ IsTooLarge s name owner present set server rows words acts fates first halt)

-- or memory is wanting, or the device's disk fails in a commit. No other end is there: the sign-in isn't refused, nor is the change for its session token or
-- its password, the parameters are of no third set, no answer is refused at a check, none is lost, and no other commit is longer than a batch
abbrev pub AskedSyncEnds : Ideal → Bytes → OwnerRow → KeySet → KeySet → Rows → Rows → ChaCha → List Act → List Fate → Halt → Type 0
AskedSyncEnds s name owner present set server rows words acts fates halt =
    EndsBehind s name owner present set server rows words acts fates halt
    ⊎ ((halt ≡ refused refusal.Memory) ⊎ ((what : What) × (changes : List Change) × (halt ≡ broken what changes)))

-- ---- where neither set is the last

-- behind the parameters the set that was asked for is dropped, since the account's last set is neither that nor the present one, but another device's: the
-- parameters are of neither; or they are those of the set that was asked for, and the device's sign-in with it is refused
pub record DropsIt (s : Ideal) (name : Bytes) (owner : OwnerRow) (present set : KeySet) (rows server : Rows) (acts : List Act) (fates : List Fate)
    (halt : Halt) : Type 0 where
  pub first : HearsParams server owner acts fates
  pub not_asked : ¬ (IsLastSet s name set)
  pub not_held : ¬ (HoldsLast s name)
  pub other : first.params ≢ present.params
  pub dropped : List Change
  pub drops : Forgets rows dropped
  pub how : ((first.params ≢ set.params) × (first.later ≡ commits forgets dropped ∷ []) × (first.others ≡ []))
      ⊎ ((first.params ≡ set.params)
      × (first.later ≡ asked (request.SignIn owner.identifier set.pw) (said (answer.Refused 401 (codes "bad-auth") more.Nothing))
      ∷ commits forgets dropped ∷ [])
      × ((now : ℕ) × (first.others ≡ served now [] (answer.Refused 401 (codes "bad-auth") more.Nothing) true ∷ [])))
  pub is : halt ≡ refused (refusal.Refused 401 (codes "bad-auth"))

-- ---- the laws

-- so ends each sync of a device that keeps a set as asked for, where that set or its present one is its account's last
abbrev pub AskedSyncsAnswer : Type 0
AskedSyncsAnswer = (secret : Bytes) (w : World) (s : Ideal) (name : Bytes) (owner : OwnerRow) (present set : KeySet) (least : ℕ) (words : ChaCha)
    (acts : List Act) (fates : List Fate) (halt : Halt) → TokensDiffer secret → Holds secret w s → IsAskedReady (w.devices name) s name owner present set
    → FitsUuids (w.devices name) → Run least sync (w.devices name) words acts halt → AreServed w.server acts fates → Each Arrives fates
    → AskedSyncEnds s name owner present set w.server (w.devices name) words acts fates halt

-- whichever set is the account's last, a sync of a device that keeps a set as asked for ends so, or the set is dropped
abbrev pub EveryAskedSyncAnswers : Type 0
EveryAskedSyncAnswers = (secret : Bytes) (w : World) (s : Ideal) (name : Bytes) (owner : OwnerRow) (present set : KeySet) (least : ℕ) (words : ChaCha)
    (acts : List Act) (fates : List Fate) (halt : Halt) → TokensDiffer secret → Holds secret w s → IsOnlyAsked s (w.devices name)
    → HoldsAsked (w.devices name) owner present set → FitsUuids (w.devices name) → Run least sync (w.devices name) words acts halt
    → AreServed w.server acts fates → Each Arrives fates → DropsIt s name owner present set (w.devices name) w.server acts fates halt
    ⊎ AskedSyncEnds s name owner present set w.server (w.devices name) words acts fates halt

-- so ends each that loses nothing of a device that is ready, whatever happened from the beginning on
abbrev pub TracedAskedSyncsAnswer : Type 0
TracedAskedSyncsAnswer = (secret : Bytes) (steps : List Happens) (moves : List Move) (w : World) (name : Bytes) (owner : OwnerRow) (present set : KeySet)
    (least : ℕ) (words : ChaCha) (acts : List Act) (fates : List Fate) (halt : Halt) → TokensDiffer secret → Trace secret at_first empty steps moves w
    → IsAskedReady (w.devices name) (end moves) name owner present set → Run least sync (w.devices name) words acts halt → AreServed w.server acts fates
    → Each Arrives fates → AskedSyncEnds (end moves) name owner present set w.server (w.devices name) words acts fates halt

-- where it is answered, it makes two requests beside those of its row of exchanges
abbrev pub AskedCounts : Type 0
AskedCounts = (s : Ideal) (name : Bytes) (owner : OwnerRow) (present set : KeySet) (server rows : Rows) (words : ChaCha) (acts : List Act) (fates : List Fate)
    (halt : Halt) (first : HearsParams server owner acts fates) → (x : IsResolved s name owner present set server rows words acts fates first halt)
    → (y : IsAnswered (rows_after rows x.hears.adopted) x.hears.left x.later halt) → requests_in acts ≡ 2 + length y.behind.rounds
