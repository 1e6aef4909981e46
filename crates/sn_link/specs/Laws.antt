-- What a device's exchanges over a link do to its server, as the world has it.
use Rattle.std.specs.Prelude.{◌≡◌, ◌⊎◌, ◌≤◌, List, [], ◌∷◌, length, Option, ⊤}
use Rattle.sn_account.specs.Sound.{IsSound}
use Rattle.sn_device.specs.Asking.{IsRequestBytes, Reply, body_of, said, session_of, target_of, unheard}
use Rattle.sn_device.specs.Runs.{Act, AreExchanges, asked, commits}
use Rattle.sn_device.specs.States.{Bytes}
use Rattle.httparse.specs.Grammar.{AllPass}
use Rattle.sn_http.specs.Laws.{IsWritable}
use Rattle.sn_http.specs.Options.{is_visible}
use Rattle.sn_net.specs.Exchanges.{Exchange}
use Rattle.sn_rows.specs.Table.{Rows, rows_after}
use Rattle.sn_server.specs.Replies.{no_memory}
use Rattle.sn_server.specs.Stores.{Kept}
use Rattle.sn_sync.specs.Fits.{FitsRequest}
use Rattle.sn_sync.specs.Members.{IsSessionToken}
use Rattle.sn_sync.specs.Requests.{route_of}
use Rattle.sn_sync.specs.Routes.{method_of}
use Rattle.sn_sync.specs.Written.{WritesRequest}
use Rattle.sn_sync.specs.declared.request.Request.{Request}
use Rattle.sn_world.specs.Calls.{AreServed, Fate, IsServed, rows_behind, rows_served, undelivered}
use Rattle.sn_link.specs.Deliveries.{Agrees, AgreesIn, Standing, failed, serves}
use Rattle.sn_link.specs.Holdings.{HoldsIn}
use Rattle.sn_link.specs.Links.{Asks, AsksAgain, link_held}
use Rattle.sn_link.specs.declared.link.ServingLink.{ServingLink}

-- ---- requests that are read

-- It is within its bounds, and so are the parts of whatever is written for it, which have their form: then a server reads it.
pub record IsReadable (host : Bytes) (r : Request) : Type 0 where
  pub fits : FitsRequest r
  pub writable : (text : Bytes) → WritesRequest r text
      → IsWritable (method_of (route_of r)) (target_of (route_of r) text) host (session_of r) (body_of (route_of r) text)

-- each that is asked
abbrev pub AreReadable : Bytes → List Act → Type 0
AreReadable host [] = ⊤
AreReadable host (commits what changes ∷ acts) = AreReadable host acts
AreReadable host (asked r reply ∷ acts) = IsReadable host r × AreReadable host acts

-- So it is where the host's name is of at most 1,024 visible bytes, the session token is none or has the form of one, and the body has
-- at most 8 MiB, however it is written.
abbrev pub ReadableWithin : Type 0
ReadableWithin = (host : Bytes) (r : Request) → FitsRequest r → AllPass is_visible host → length host ≤ 1024
    → (session_of r ≡ []) ⊎ IsSessionToken (session_of r)
    → ((text : Bytes) → WritesRequest r text → length (body_of (route_of r) text) ≤ 8388608) → IsReadable host r

-- ---- what becomes of them

-- the device heard that memory was wanting at the server
abbrev pub IsWanting : Reply → Type 0
IsWanting reply = reply ≡ said no_memory

-- as the world has it; or memory was wanting at the server, which changed nothing and said so
abbrev pub IsAnswered : Rows → Request → Reply → Fate → Type 0
IsAnswered server r reply fate = IsServed server r reply fate ⊎ (IsWanting reply × (fate ≡ undelivered))

-- each request of the acts, in order, over the rows that those before it have left
abbrev pub AreAnswered : Rows → List Act → List Fate → Type 0
AreAnswered server [] fates = fates ≡ []
AreAnswered server (commits what changes ∷ acts) fates = AreAnswered server acts fates
AreAnswered server (asked r reply ∷ acts) [] = ⊥
AreAnswered server (asked r reply ∷ acts) (fate ∷ fates) = IsAnswered server r reply fate × AreAnswered (rows_behind server fate) acts fates

-- there are such fates, and they leave these rows
pub record Leave (server : Rows) (acts : List Act) (rows : Rows) : Type 0 where
  pub fates : List Fate
  pub are : AreAnswered server acts fates
  pub rows_are : rows ≡ rows_served server fates

-- They leave the server's rows. Where its disk failed in a commit, both the rows with that commit and those without it are left
-- by such fates: a crash leaves the one or the other.
abbrev pub LeaveServer : Rows → List Act → Standing → Type 0
LeaveServer server acts (serves kept) = Leave server acts kept.rows
LeaveServer server acts (failed had made) = Leave server acts had.rows × Leave server acts (rows_after had.rows made)

-- the device never heard that memory was wanting at the server
abbrev pub HearsNoWant : List Act → Type 0
HearsNoWant [] = ⊤
HearsNoWant (commits what changes ∷ acts) = HearsNoWant acts
HearsNoWant (asked r reply ∷ acts) = ¬ (IsWanting reply) × HearsNoWant acts

-- ---- the laws

-- what the server has behind the exchanges of these acts
pub record LinkLeaves (acts : List Act) (new : ServingLink) (kept : Kept) : Type 0 where
  pub next : Standing
  pub holds : HoldsIn (link_held new) next
  pub leaves : LeaveServer kept.rows acts next
  pub agrees : Agrees kept → AgreesIn next

-- Whatever a device asks over the link, and whatever is lost: its requests have such fates, and the server has the rows that
-- they leave, by its batches too.
abbrev pub LinkServes : Type 0
LinkServes = (host : Bytes) (acts : List Act) (old new : ServingLink) (xs : List Exchange) (kept : Kept)
    → HoldsIn (link_held old) (serves kept) → IsSound kept.rows → AreExchanges host acts xs → AreReadable host acts → Asks old new xs
    → LinkLeaves acts new kept

-- where no want of memory was heard, they are just the world's
abbrev pub ServedUnlessWanting : Type 0
ServedUnlessWanting = (server : Rows) (acts : List Act) (fates : List Fate) → HearsNoWant acts → AreAnswered server acts fates → AreServed server acts fates

-- the fate of a request whose answer nobody hears, by the rows behind it
abbrev pub LeavesUnheard : Rows → Request → Standing → Type 0
LeavesUnheard server r (serves kept) = (fate : Fate) × IsServed server r unheard fate × (kept.rows ≡ rows_behind server fate)
LeavesUnheard server r (failed had made) = ((fate : Fate) × IsServed server r unheard fate × (had.rows ≡ rows_behind server fate))
    × ((fate : Fate) × IsServed server r unheard fate × (rows_after had.rows made ≡ rows_behind server fate))

-- what the server has behind a request that is delivered late or again
pub record AgainLeaves (r : Request) (new : ServingLink) (kept : Kept) : Type 0 where
  pub next : Standing
  pub holds : HoldsIn (link_held new) next
  pub leaves : LeavesUnheard kept.rows r next
  pub agrees : Agrees kept → AgreesIn next

-- it has one of the world's fates too
abbrev pub AgainServes : Type 0
AgainServes = (host : Bytes) (r : Request) (bytes : Bytes) (old new : ServingLink) (answer : Option Bytes) (kept : Kept)
    → HoldsIn (link_held old) (serves kept) → IsSound kept.rows → IsRequestBytes host r bytes → IsReadable host r → AsksAgain old new bytes answer
    → AgainLeaves r new kept
