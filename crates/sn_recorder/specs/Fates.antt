-- What became of a request, by what is recorded of its exchange.
use Rattle.std.specs.Prelude.{◌≡◌, ℕ, List, [], Option, Some}
use Rattle.sn_account.specs.RuleLaws.{status_of}
use Rattle.sn_account.specs.Sound.{IsSound}
use Rattle.sn_device.specs.Asking.{IsExchange, IsRequestBytes, Reply, unheard}
use Rattle.sn_http.specs.Answers.{IsAnswer as IsHttpAnswer}
use Rattle.sn_device.specs.States.{Bytes}
use Rattle.sn_link.specs.Deliveries.{serves}
use Rattle.sn_link.specs.Laws.{IsAnswered, IsReadable}
use Rattle.sn_link.specs.Links.{Befalls}
use Rattle.sn_link.specs.declared.losses.Lost.{Lost}
use Rattle.sn_link.specs.declared.losses.Lost.TheVariants as lose
use Rattle.sn_net.specs.Exchanges.{Exchange}
use Rattle.sn_rows.specs.declared.change.Change.{Change}
use Rattle.sn_server.specs.Stores.{Kept}
use Rattle.sn_sync.specs.declared.request.Request.{Request}
use Rattle.sn_world.specs.Calls.{Fate, IsServed, crashed, rows_behind, served, undelivered}
use Rattle.sn_recorder.specs.Recorded.{Gains, IsRecordOf}
use Rattle.sn_recorder.specs.Told.{IsToldOf, batches_of}
use Rattle.sn_recorder.specs.declared.exchanged.Exchanged.{Exchanged}

-- it was served at this moment, if it was, and the commit stands
abbrev pub IsServedAt : ℕ → Fate → Type 0
IsServedAt now undelivered = Unit {0}
IsServedAt now (served moment changes given arrives) = moment ≡ now
IsServedAt now (crashed moment changes given) = ⊥

-- ---- an exchange

-- The fate of a request at an open server, which is open behind it: as the link's law has it, at the link's moment, and its record tells of just what it
-- changed. A request that is lost never comes to the server.
pub record HasFate (host : Bytes) (r : Request) (reply : Reply) (lost : Lost) (now : ℕ) (kept next : Kept) (e : Exchanged) : Type 0 where
  pub fate : Fate
  pub is : IsAnswered kept.rows r reply fate
  pub at : IsServedAt now fate
  pub told : IsToldOf host r reply fate e
  pub rows_are : next.rows ≡ rows_behind kept.rows fate
  pub none : lost ≡ lose.Request → fate ≡ undelivered

-- whatever is lost of it
abbrev pub ExchangesHaveFates : Type 0
ExchangesHaveFates = (host : Bytes) (r : Request) (reply : Reply) (lost : Lost) (now : ℕ) (kept next : Kept) (x : Exchange) (e : Exchanged)
    → IsSound kept.rows → IsReadable host r → IsExchange host r reply x → Befalls lost now (serves kept) x (serves next)
    → IsRecordOf x e → Gains (serves kept) e.batches (serves next) → HasFate host r reply lost now kept next e

-- ---- a request that comes late or again

-- an answer with this status is that of a request with this fate; 503 is that of want of memory, where nothing was changed
abbrev pub IsStatusOf : ℕ → Fate → Type 0
IsStatusOf status undelivered = status ≡ 503
IsStatusOf status (served now changes given arrives) = status ≡ status_of given
IsStatusOf status (crashed now changes given) = ⊥

-- its fate, by the batches that the server's store gained and the answer that was given, which nobody hears
pub record HasFateAgain (r : Request) (now : ℕ) (kept next : Kept) (batches : List (List Change)) (answer : Option Bytes) : Type 0 where
  pub fate : Fate
  pub is : IsServed kept.rows r unheard fate
  pub at : IsServedAt now fate
  pub gained : batches ≡ batches_of fate
  pub rows_are : next.rows ≡ rows_behind kept.rows fate
  pub status_is : (given : Bytes) → answer ≡ Some given → (status : ℕ) (body : Bytes) → IsHttpAnswer given status body → IsStatusOf status fate

abbrev pub AgainsHaveFates : Type 0
AgainsHaveFates = (host : Bytes) (r : Request) (bytes : Bytes) (now : ℕ) (kept next : Kept) (batches : List (List Change)) (answer : Option Bytes)
    → IsRequestBytes host r bytes → IsReadable host r → Befalls lose.Nothing now (serves kept) (record { host = []; request = bytes; answer = answer }) (serves next)
    → Gains (serves kept) batches (serves next) → HasFateAgain r now kept next batches answer
