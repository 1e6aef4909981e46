-- What becomes of the requests of a call, by what is lost of them.
use Rattle.std.specs.Prelude.{◌≡◌, ◌≢◌, ◌⊎◌, ℕ, List, [], ◌∷◌, Bool, false, true}
use Rattle.sn_device.specs.Asking.{Reply, lost, said, unheard, unread}
use Rattle.sn_device.specs.Runs.{Act, asked, commits}
use Rattle.sn_io.specs.Causes.{next_count}
use Rattle.sn_link.specs.Losses.{lost_at}
use Rattle.sn_link.specs.declared.losses.Losses.{Losses}
use Rattle.sn_link.specs.declared.losses.Lost.{Lost}
use Rattle.sn_link.specs.declared.losses.Lost.TheVariants as lose
use Rattle.sn_world.specs.Calls.{Fate, crashed, served, undelivered}

-- it is served, and the answer arrives or not
abbrev pub IsServedSo : Bool → Fate → Type 0
IsServedSo arrives undelivered = ⊥
IsServedSo arrives (served now changes given arrived) = arrived ≡ arrives
IsServedSo arrives (crashed now changes given) = ⊥

-- its answer doesn't arrive; where memory was wanting at the server it isn't served
abbrev pub IsUnanswered : Fate → Type 0
IsUnanswered fate = IsServedSo false fate ⊎ (fate ≡ undelivered)

-- of a request of which nothing is lost: the answer that the device heard arrived; it hears none where memory is wanting
abbrev pub IsHeardSo : Reply → Fate → Type 0
IsHeardSo lost fate = IsUnanswered fate
IsHeardSo unheard fate = IsUnanswered fate
IsHeardSo (unread at) fate = IsUnanswered fate
IsHeardSo (said given) fate = IsServedSo true fate

-- A request that is lost is never served, and nothing is heard of it; one whose answer is lost is served, or memory was wanting at the server, which nobody
-- hears.
abbrev pub IsFateBy : Lost → Reply → Fate → Type 0
IsFateBy lose.Nothing reply fate = IsHeardSo reply fate
IsFateBy lose.Request reply fate = (reply ≡ lost) × (fate ≡ undelivered)
IsFateBy lose.Reply reply fate = (reply ≡ lost) × IsUnanswered fate

-- of each request, numbered from this one on
abbrev pub AreByLosses : Losses → ℕ → List Act → List Fate → Type 0
AreByLosses losses number [] fates = fates ≡ []
AreByLosses losses number (commits what changes ∷ acts) fates = AreByLosses losses number acts fates
AreByLosses losses number (asked r reply ∷ acts) [] = ⊥
AreByLosses losses number (asked r reply ∷ acts) (fate ∷ fates) = IsFateBy (lost_at losses number) reply fate × AreByLosses losses (next_count number) acts fates

-- of some request, numbered from this one on, something is to be lost
abbrev pub AnyAskLost : Losses → ℕ → List Act → Type 0
AnyAskLost losses number [] = ⊥
AnyAskLost losses number (commits what changes ∷ acts) = AnyAskLost losses number acts
AnyAskLost losses number (asked r reply ∷ acts) = (lost_at losses number ≢ lose.Nothing) ⊎ AnyAskLost losses (next_count number) acts
