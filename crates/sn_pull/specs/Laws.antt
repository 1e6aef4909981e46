-- What holds of every pull, by the definitions alone.
use Rattle.std.specs.Prelude.{◌≡◌, ◌++◌, ℕ, List, [], length, Option, None}
use Rattle.rand_chacha.specs.ChaCha.{ChaCha}
use Rattle.sn_account.specs.Rule.{Rule}
use Rattle.sn_account.specs.Sessions.{IsSession}
use Rattle.sn_account.specs.Sound.{IsSound as IsSoundServer}
use Rattle.sn_account.specs.Syncs.{IsStampOf, above_of, is_first}
use Rattle.sn_device.specs.Runs.{Act, Halt, Run, broken, rows_done, sync}
use Rattle.sn_device.specs.States.{Bytes, IsSound}
use Rattle.sn_device.specs.Steps.{Step, What, begins}
use Rattle.sn_pull.specs.Pages.{IsPageAnswer}
use Rattle.sn_pull.specs.Pulls.{EndsPull, IsTokenGiven, MayPull}
use Rattle.sn_pull.specs.Serving.{AreServed, AreServedAmong}
use Rattle.sn_rows.specs.Table.{Rows, rows_after}
use Rattle.sn_rows.specs.declared.change.Change.{Change}
use Rattle.sn_rows.specs.declared.device_rows.OwnerRow.{OwnerRow}
use Rattle.sn_sets.specs.declared.sets.Sets.{Sets}
use Rattle.sn_string.specs.declared.params.KeySet.{KeySet}
use Rattle.sn_sync.specs.declared.answer.Answer.{Answer}
use Rattle.sn_sync.specs.declared.request.Request.{Request}
use Rattle.sn_sync.specs.declared.request.Request.TheVariants as request

-- a sync that sends nothing, with an account's session token and tokens of stamps, changes nothing on the server and is answered with the page above those
abbrev pub PagesAnswer : Type 0
PagesAnswer = (server : Rows) (token : Bytes) (n limit : ℕ) (sync_token cursor_token : Option Bytes) (from cursor : Option ℕ) (now : ℕ)
    (changes : List Change) (given : Answer) → IsSoundServer server → IsSession server token n → IsStampOf sync_token from → IsStampOf cursor_token cursor
    → Rule server (request.Sync token [] limit sync_token cursor_token) now changes given
    → (changes ≡ []) × IsPageAnswer server n (above_of from cursor) (is_first from cursor) limit given

-- a sync of a device that may pull, over the honest server, leaves the server's rows as they are, and ends as a pull does
abbrev pub WholePull : Type 0
WholePull = (least : ℕ) (server after rows : Rows) (n : ℕ) (owner : OwnerRow) (sets : Sets) (words : ChaCha) (acts : List Act) (halt : Halt)
    → IsSoundServer server → IsSound rows → MayPull server rows n owner sets → Run least sync rows words acts halt → AreServed server acts after
    → (after ≡ server) × EndsPull server rows n owner sets words acts halt

-- a device may pull, whatever its own row is by now, and its sync token is one that was given if that of this row was
abbrev pub MayPullAgain : Rows → Rows → ℕ → OwnerRow → Sets → Type 0
MayPullAgain server rows n before sets = (owner : OwnerRow) × MayPull server rows n owner sets × (IsTokenGiven server before → IsTokenGiven server owner)

-- whichever first acts of a pull are done, and where its disk failed also with all of the commit in which that was, the device may pull from there on
abbrev pub PullGoesOn : Type 0
PullGoesOn = (least : ℕ) (server after rows : Rows) (n : ℕ) (owner : OwnerRow) (sets : Sets) (words : ChaCha) (acts : List Act) (halt : Halt)
    → IsSoundServer server → IsSound rows → MayPull server rows n owner sets → Run least sync rows words acts halt → AreServed server acts after
    → ((front later : List Act) → acts ≡ front ++ later → MayPullAgain server (rows_done rows front) n owner sets)
    × ((what : What) (changes : List Change) → halt ≡ broken what changes → MayPullAgain server (rows_after (rows_done rows acts) changes) n owner sets)

-- a device whose first rows are from a registration or a sign-in may pull, with the session token of that
abbrev pub BegunMayPull : Type 0
BegunMayPull = (server rows : Rows) (n : ℕ) (words left : ChaCha) (set : KeySet) (account token : Bytes) (changes : List Change)
    → Step rows words (begins set account token) changes left → length account ≡ 16 → IsSession server token n
    → (owner : OwnerRow) × MayPull server (rows_after rows changes) n owner (record { present = set; older = None; asked = None }) × IsTokenGiven server owner

-- whatever request the server answers meanwhile, the device may pull afterwards, if its session token is still the account's present one
abbrev pub PullStays : Type 0
PullStays = (server rows : Rows) (n : ℕ) (owner : OwnerRow) (sets : Sets) (r : Request) (now : ℕ) (changes : List Change) (given : Answer)
    → IsSoundServer server → MayPull server rows n owner sets → IsTokenGiven server owner → Rule server r now changes given
    → IsSession (rows_after server changes) owner.token n
    → MayPull (rows_after server changes) rows n owner sets × IsTokenGiven (rows_after server changes) owner

-- a sync of a device that may pull, before each of whose requests the server answers any others, ends as a pull does, by the server's rows as they are
-- answered last
abbrev pub PullAmongOthers : Type 0
PullAmongOthers = (least : ℕ) (server after rows : Rows) (n : ℕ) (owner : OwnerRow) (sets : Sets) (words : ChaCha) (acts : List Act) (halt : Halt)
    → IsSoundServer server → IsSound rows → MayPull server rows n owner sets → IsTokenGiven server owner → Run least sync rows words acts halt
    → AreServedAmong owner.token n server acts after → EndsPull after rows n owner sets words acts halt
