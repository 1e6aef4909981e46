-- A call of a device over the honest server: each of its requests that comes there is answered by the rule, and nothing else changes the server's rows.
use Rattle.std.specs.Prelude.{◌≡◌, ◌⊎◌, ◌+◌, ℕ, List, [], ◌∷◌, ◌++◌}
use Rattle.sn_account.specs.Rule.{Rule}
use Rattle.sn_account.specs.Sessions.{IsSession}
use Rattle.sn_device.specs.Asking.{Reply, lost, said, unheard}
use Rattle.sn_device.specs.Runs.{Act, asked, commits}
use Rattle.sn_device.specs.States.{Bytes}
use Rattle.sn_rows.specs.Table.{Rows, rows_after}
use Rattle.sn_rows.specs.declared.change.Change.{Change}
use Rattle.sn_sync.specs.Fits.{FitsRequest}
use Rattle.sn_sync.specs.declared.answer.Answer.{Answer}
use Rattle.sn_sync.specs.declared.request.Request.{Request}

-- a request comes to a server with these rows, at some time, and is answered by the rule: that is what comes back, or bytes that weren't read, since
-- memory was wanting, or nothing, since the link failed then
pub record IsAnswered (server : Rows) (r : Request) (reply : Reply) (after : Rows) : Type 0 where
  pub now : ℕ
  pub changes : List Change
  pub given : Answer
  pub rule : Rule server r now changes given
  pub comes : (reply ≡ said given) ⊎ ((reply ≡ unheard) ⊎ (reply ≡ lost))
  pub after_is : after ≡ rows_after server changes

-- or the link failed before it came there
abbrev pub IsServed : Rows → Request → Reply → Rows → Type 0
IsServed server r reply after = IsAnswered server r reply after ⊎ ((reply ≡ lost) × (after ≡ server))

-- the requests of these acts, one after another
abbrev pub AreServed : Rows → List Act → Rows → Type 0
AreServed server [] after = after ≡ server
AreServed server (commits what changes ∷ acts) after = AreServed server acts after
AreServed server (asked r reply ∷ acts) after = (between : Rows) × IsServed server r reply between × AreServed between acts after

-- ---- a server that answers others in between

-- a request of any device, its time, what it changed and the answer
pub record Other : Type 0 where
  pub request : Request
  pub now : ℕ
  pub changes : List Change
  pub given : Answer

-- within its bounds, as each one that is read; one after another
abbrev pub AreOthers : Rows → List Other → Rows → Type 0
AreOthers server [] after = after ≡ server
AreOthers server (o ∷ others) after =
    FitsRequest o.request × Rule server o.request o.now o.changes o.given × AreOthers (rows_after server o.changes) others after

-- the requests of these acts, before each of which the server answers any others; then this session token is still the present one of account n
abbrev pub AreServedAmong : Bytes → ℕ → Rows → List Act → Rows → Type 0
AreServedAmong token n server [] after = after ≡ server
AreServedAmong token n server (commits what changes ∷ acts) after = AreServedAmong token n server acts after
AreServedAmong token n server (asked r reply ∷ acts) after = (others : List Other) × (met : Rows) × (between : Rows) × AreOthers server others met
    × IsSession met token n × IsServed met r reply between × AreServedAmong token n between acts after

-- ---- acts

-- how many requests there are among acts
abbrev pub requests_in : List Act → ℕ
requests_in [] = 0
requests_in (commits what changes ∷ acts) = requests_in acts
requests_in (asked r reply ∷ acts) = 1 + requests_in acts

-- the last of the acts is a request whose reply was lost
pub record EndsLost (acts : List Act) : Type 0 where
  pub front : List Act
  pub request : Request
  pub split : acts ≡ front ++ asked request lost ∷ []
